pub mod MultLemmas
pub mod Sums
pub mod Magnitude
pub mod Steps
pub mod PickedLemmas
pub mod FillLemmas
