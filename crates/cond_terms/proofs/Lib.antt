pub mod methods
pub mod reading
pub mod CallerLemmas
