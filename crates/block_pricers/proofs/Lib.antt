pub mod FormLemmas
pub mod SeatLemmas
pub mod DeskLemmas
pub mod GraphLemmas
pub mod WorkLemmas
