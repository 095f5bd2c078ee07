-- The evaluation of a leaf cites these.
pub mod Shown
pub mod Openings
