-- Other crates cite Classes. The rest is for contracts here alone.
pub mod Classes
pub mod Signatures
