pub mod lists
pub mod tables
pub mod calls
