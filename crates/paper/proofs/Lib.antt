-- What follows from the definitions, and the theorems.
pub mod laws
pub mod Theorems
