pub mod Basics
pub mod StateRows
pub mod Counts
pub mod TreePlaces
