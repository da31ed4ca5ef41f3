-- The definitions. Tree and Count: how many layouts there are. Place: the place of a best layout, and how many there are.
pub mod Tree
pub mod Count
pub mod Place
