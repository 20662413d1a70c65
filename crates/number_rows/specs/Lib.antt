pub mod Entries
pub mod NumbersAsRows
pub mod NumberRows
