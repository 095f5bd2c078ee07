-- Other crates cite Form, Priced and Ends. The rest are words of contracts here alone.
pub mod Form
pub mod Priced
pub mod Ends
pub mod Checks
pub mod Laws
