pub mod Prefixes
pub mod Journals
pub mod LeastFirst
