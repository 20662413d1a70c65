pub mod Lookups
pub mod DeadRows
pub mod Presence
