-- Words: a word at the front of a text. Laws: what a step of paper's laws/Parsing comes to at a place.
pub mod Words
pub mod Laws
