pub mod Beginnings
pub mod Diamond
pub mod SmallConflict
pub mod NamedReader
