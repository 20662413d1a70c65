pub mod accepting
pub mod sorts
