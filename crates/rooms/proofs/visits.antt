pub mod Vectors
pub mod Visiting
