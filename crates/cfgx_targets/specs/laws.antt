-- Why the comparisons meet the laws of their traits. Internal: the impls name these, and a `ghost
-- use` imports from its own crate only what stands in its `specs/`.
pub mod TargetEquality
pub mod TargetOrder
