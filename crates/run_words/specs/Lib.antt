pub mod RunOptions
pub mod Words
