pub mod MarkLemmas
pub mod PlainLemmas
