pub mod CallerLemmas
pub mod files
