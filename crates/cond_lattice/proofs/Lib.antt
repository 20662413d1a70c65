pub mod order
pub mod answer_rows
pub mod bounds
pub mod tables
pub mod CallerLemmas
