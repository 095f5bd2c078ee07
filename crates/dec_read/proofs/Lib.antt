pub mod LawLemmas
pub mod EndLemmas
