mod ShowOneAnswer
pub mod DetectOneAnswer
pub mod Lifted
pub mod Proposed
