pub mod LoopRooms
pub mod LoopPlays
pub mod LimitedRuns
pub mod NetworkRuns
pub mod PointRuns
pub mod CallerLemmas
