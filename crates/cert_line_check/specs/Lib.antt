-- Other crates cite Visits, Judging, Cutting and Steps. The rest is for contracts here alone.
pub mod Visits
pub mod Judging
pub mod Steps
pub mod Cutting
pub mod Counting
