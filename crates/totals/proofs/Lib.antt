-- Laws that belong to no one function.
pub mod Corners
pub mod Ports
pub mod Cells
pub mod Leading
pub mod Marking
