pub mod Standing
pub mod TurnPlaces
pub mod Adopting
pub mod Below
