pub mod NearestLaws
pub mod Searched
pub mod Pruning
pub mod Takings
pub mod Visits
pub mod Work
pub mod Ends
