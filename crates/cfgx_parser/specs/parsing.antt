-- What the parser's functions keep and return, by the parser as a function. Internal: no public
-- contract of `cfg_expr` cites it.
pub mod Fields
pub mod NodeState
pub mod Parser
