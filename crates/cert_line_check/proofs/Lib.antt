pub mod LineVisits
pub mod Counting
pub mod Lines
pub mod Walking
pub mod CutLines
pub mod Heads
pub mod Points
