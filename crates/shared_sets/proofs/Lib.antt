pub mod object_rows
pub mod tables
