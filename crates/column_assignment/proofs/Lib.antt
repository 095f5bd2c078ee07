pub mod DealLemmas
pub mod WholeLemmas
pub mod SpreadLemmas
