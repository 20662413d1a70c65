pub mod LostTakes
pub mod Scripts
pub mod Beginnings
