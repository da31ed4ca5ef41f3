-- The laws that the proofs of `order` cite.
pub mod Sorting
