-- What the code's leaders stand for.
pub mod Drawn
