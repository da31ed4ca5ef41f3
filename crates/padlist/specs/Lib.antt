-- Lines: what the code's answers stand for. Laws: what the lines that were read come to.
pub mod Lines
pub mod Laws
