pub mod BlockLemmas
pub mod StandLemmas
pub mod NamedRows
pub mod PlainLemmas
