pub mod AffineLaws
pub mod Steps
pub mod Turns
