pub mod Sameness
pub mod Derived
