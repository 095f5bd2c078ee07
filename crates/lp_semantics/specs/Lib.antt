-- Other crates cite Meaning, Reading, Model and PartsOf. The rest are words of contracts here alone.
pub mod Meaning
pub mod Reading
pub mod Model
pub mod Numbered
pub mod Fit
pub mod PartsOf
