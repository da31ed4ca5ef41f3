-- What the code computes, beside the definitions: tests, readers, texts. That each does what the definitions say is proofs/laws.
-- The tests of the faults, and of every assignment:
pub mod Tests
pub mod Decided
pub mod Trying
-- Jobs that are accepted, layouts and their totals:
pub mod Accepted
pub mod Squares
pub mod Totals
pub mod Bounds
-- Drawn points:
pub mod Quarter
pub mod Drawn
pub mod Texts
-- Lists of pads as text:
pub mod Parsing
pub mod Imported
