pub mod Coming
pub mod Pathing
pub mod Judging
pub mod Walking
pub mod CutFacts
