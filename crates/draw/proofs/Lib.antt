-- Laws that several proofs of `draw` cite.
pub mod Bits
pub mod Setting
