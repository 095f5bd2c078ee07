pub mod Differences
pub mod Changes
pub mod LineTexts
