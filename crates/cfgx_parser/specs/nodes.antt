-- A tree as the list of its nodes, and how it is written. Internal.
pub mod KeepsTree
pub mod Node
pub mod Prefix
pub mod Shape
pub mod NodeWriter
pub mod WritesNodes
