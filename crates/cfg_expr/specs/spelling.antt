-- How the value of a predicate is written. Internal: no public contract cites this.
pub mod ValueBytes
