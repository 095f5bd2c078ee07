pub mod TestFacts
pub mod KeepProof
pub mod NodeProof
pub mod LostProof
pub mod BoundProof
pub mod CountProof
mod ComingProof
pub mod LoadedProof
