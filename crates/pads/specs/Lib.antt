-- Pads: the definitions. Sides: those of the lists that the code has. Counts: their laws.
pub mod Pads
pub mod Sides
pub mod Counts
