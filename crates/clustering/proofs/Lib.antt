pub mod CallerLemmas
pub mod moves
pub mod means
pub mod lines
