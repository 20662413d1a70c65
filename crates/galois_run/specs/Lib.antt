pub mod Statuses
pub mod FaultStatuses
pub mod RunTurns
