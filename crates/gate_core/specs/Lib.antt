pub mod Entries
pub mod Replays
pub mod Views
pub mod CallAnswers
pub mod LastPlaces
pub mod Swaps
pub mod Scans
pub mod Homes
