pub mod CallerLemmas
pub mod methods
