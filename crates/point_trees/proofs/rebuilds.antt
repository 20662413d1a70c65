pub mod Gathering
pub mod Halves
pub mod Walks
pub mod Heights
