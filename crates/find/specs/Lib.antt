-- The first number, or pair of numbers, at which a test holds.
pub mod Search
