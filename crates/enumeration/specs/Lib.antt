-- Other crates cite Caps, Reach and Sizes. The rest are words of contracts here alone.
pub mod Orders
pub mod Columns
pub mod Shifts
pub mod Reach
pub mod Best
pub mod Search
pub mod Levels
pub mod Relax
pub mod Sizes
pub mod Caps
pub mod Divisors
