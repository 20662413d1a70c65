pub mod states
pub mod trees
pub mod searches
pub mod rebuilds
pub mod CallerLemmas
