pub mod CallerLemmas
pub mod acts
pub mod books
pub mod ready
pub mod runs
pub mod states
