pub mod Asked
pub mod Located
pub mod Order
pub mod ReadFrom
pub mod Unaskable
pub mod nodes
pub mod parsing
