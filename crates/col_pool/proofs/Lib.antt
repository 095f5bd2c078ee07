pub mod PoolLemmas
pub mod InsideLemmas
pub mod SmallLemmas
pub mod StoreLemmas
pub mod FoundLemmas
