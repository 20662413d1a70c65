pub mod CallerLemmas
pub mod states
pub mod methods
pub mod object_kinds
pub mod table_lemmas
pub mod replays
pub mod bodies
pub mod serial
