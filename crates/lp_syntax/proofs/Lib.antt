pub mod Ascii
pub mod SymbolLemmas
pub mod Roles
pub mod NumberLemmas
pub mod Remaining
