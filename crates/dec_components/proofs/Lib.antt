pub mod ChainLemmas
pub mod TreeLemmas
pub mod NumberLemmas
pub mod FoundLemmas
