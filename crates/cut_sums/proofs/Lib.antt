pub mod RowLemmas
pub mod SizeLemmas
pub mod CombineLemmas
pub mod DemandLemmas
pub mod RoundLemmas
pub mod CutLemmas
pub mod BoundLemmas
pub mod PlainLemmas
