pub mod SoleTurns
pub mod SessionLists
pub mod Drains
pub mod ToldTurns
pub mod Schedules
pub mod LoneRuns
pub mod WholeRuns
pub mod Beginnings
