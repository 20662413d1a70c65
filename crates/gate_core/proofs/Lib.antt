pub mod lists
pub mod replays
pub mod lawful
pub mod deeds
pub mod scans
pub mod CallerLemmas
