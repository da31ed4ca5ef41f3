-- Heads: the definitions that the contracts cite. Given: the same of the lists that the code has.
pub mod Heads
pub mod Given
