-- Board: the board of a job, and what is asked of one.
pub mod Board
