pub mod IndexLemmas
pub mod WalkLemmas
pub mod NumberLemmas
