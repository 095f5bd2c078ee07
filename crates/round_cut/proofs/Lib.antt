pub mod SeveralLemmas
pub mod PlainCuts
pub mod TakenLemmas
pub mod OneList
