-- Other crates cite Deals.
pub mod Deals
