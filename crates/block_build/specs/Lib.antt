-- Other crates cite Homes, Gather, Source and Stand. The rest are words of contracts here alone.
pub mod Stand
pub mod Gather
pub mod Places
pub mod Columns
pub mod Homes
pub mod Source
pub mod Shares
