pub mod MirProof
pub mod BoundProof
pub mod RoundingProof
pub mod WideProof
pub mod KeepProof
pub mod FurtherProof
pub mod AllCutsProof
pub mod SwapProof
pub mod AlikeProof
pub mod SwapPointProof
pub mod ClassCoverProof
pub mod ClassPartsProof
pub mod WideTruthProof
pub mod StaysProof
pub mod WideJudgeProof
mod Examples
mod Worked
