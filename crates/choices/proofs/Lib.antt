-- Laws that belong to no one function.
pub mod Sources
pub mod Stores
pub mod Choosing
pub mod Memory
