-- Laws that belong to no one function.
pub mod Scan
pub mod Tallies
