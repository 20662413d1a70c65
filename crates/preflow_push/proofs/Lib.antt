pub mod CallerLemmas
pub mod moves
pub mod start_states
pub mod orders
