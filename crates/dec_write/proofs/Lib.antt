pub mod RowsLemmas
pub mod SplitLemmas
pub mod WordLemmas
pub mod WalkLemmas
pub mod TextLemmas
pub mod LengthLemmas
