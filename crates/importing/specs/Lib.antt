-- What is kept of the records that were made.
pub mod Made
