-- For a text that a tree spells, the nodes of this tree are written.
pub mod Laws
pub mod LocatedClasses
pub mod WritingLemmas
