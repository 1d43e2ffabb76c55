-- The parser as a function over tokens. Internal: no public contract of `cfg_expr` names it.
pub mod State
pub mod Step
