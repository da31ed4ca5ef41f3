-- Lists: the lists of a board. Bars: the ports that squares bar. Bridge: the paper's best layouts are those that the search finds in these lists. Sides: a pad among the ports.
pub mod Lists
pub mod Bars
pub mod Sides
pub mod Bridge
