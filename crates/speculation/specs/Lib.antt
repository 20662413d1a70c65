pub mod Events
pub mod Sessions
pub mod Machines
pub mod EventRows
pub mod ScheduledRuns
pub mod Premises
pub mod RunResults
pub mod Limits
