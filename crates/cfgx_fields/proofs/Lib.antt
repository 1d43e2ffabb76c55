pub mod AtomicLemmas
pub mod NumberExamples
pub mod NumberLemmas
