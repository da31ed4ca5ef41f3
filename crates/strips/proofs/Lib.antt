-- The laws. Room: no more pads than ports; the others prove of the definitions of the same name in specs/.
pub mod Lists
pub mod Least
pub mod Strips
pub mod Prefix
pub mod Order
pub mod Following
pub mod Room
pub mod FirstNext
pub mod ByPlace
