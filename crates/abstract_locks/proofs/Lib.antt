pub mod tables
