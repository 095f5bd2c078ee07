pub mod PointLemmas
pub mod TidyLemmas
pub mod MakeLemmas
pub mod DecLemmas
