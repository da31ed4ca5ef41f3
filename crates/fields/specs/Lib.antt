-- Fronts: what the code's answers stand for.
pub mod Fronts
