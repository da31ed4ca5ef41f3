-- Laws that belong to no one function.
pub mod Translated
pub mod Replied
