-- Laws that belong to no one function.
pub mod Copying
pub mod Turning
