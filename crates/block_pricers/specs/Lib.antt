-- Other crates cite Forms, Seats and Told.
pub mod Forms
pub mod Seats
pub mod Told
-- Other crates cite Works. The rest are words of contracts here alone.
pub mod Pricers
pub mod Rooms
pub mod Desks
pub mod Works
