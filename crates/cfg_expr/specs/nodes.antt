-- How the nodes of a condition are evaluated, how its answers are filled, and how steps
-- are written and read. Internal: no public contract cites this.
pub mod AnswerSlots
pub mod Parity
pub mod Reading
