pub mod Asked
pub mod Copied
pub mod Joined
pub mod Nodes
pub mod Placed
pub mod Read
