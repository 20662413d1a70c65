pub mod entries
pub mod state_rows
pub mod CallerLemmas
