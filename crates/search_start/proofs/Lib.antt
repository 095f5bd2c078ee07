pub mod CutLemmas
pub mod Beginning
pub mod Paths
