pub mod Decimals
pub mod DifferProof
pub mod BothTexts
pub mod ChangeText
pub mod CutTexts
pub mod TreeLines
