-- Tree and Count: how many layouts there are, and where each stands. Ranks: that these are the places and the count of specs/Place.
pub mod Compare
pub mod Tree
pub mod Count
pub mod Ranks
