pub mod GateTables
pub mod LoopRuns
pub mod LoopRooms
pub mod NetworkLoop
pub mod PointsLoop
