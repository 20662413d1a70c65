pub mod Standing
pub mod Implied
pub mod Bounds
