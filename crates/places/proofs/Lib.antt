-- Laws that belong to no one function.
pub mod Taken
pub mod Ports
