pub mod CutLemmas
pub mod ListLemmas
pub mod TakeLemmas
pub mod FaultLemmas
pub mod ReadLemmas
pub mod PlaceLemmas
