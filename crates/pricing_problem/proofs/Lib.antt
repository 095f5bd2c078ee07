pub mod EndLaws
pub mod Passed
pub mod ZoneLaws
pub mod BlockLaws
