-- Other crates cite Merges and Files. The rest are words of contracts here alone.
pub mod Claims
pub mod Opens
pub mod Merges
pub mod Stops
pub mod MergeFiles
-- Other crates cite Migrates and Files. The rest are words of contracts here alone.
pub mod Migrates
pub mod MigrateFiles
pub mod Laws
pub mod Writes
