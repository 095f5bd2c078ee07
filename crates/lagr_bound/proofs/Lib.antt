pub mod PartLemmas
pub mod SharedLemmas
