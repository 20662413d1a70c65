pub mod meanings
pub mod gate_tables
pub mod CallerLemmas
