pub mod Trees
pub mod TreeStates
pub mod Searches
pub mod Rebuilding
pub mod NearestPoints
