-- Why the tests behind `==` meet the laws of `PartialEq` and `Eq`. Internal: the impls name these,
-- and a `ghost use` imports from its own crate only what stands in its `specs/`.
pub mod Equality
