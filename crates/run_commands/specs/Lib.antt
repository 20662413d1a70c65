pub mod RunTables
pub mod Inputs
pub mod CommandMeaning
pub mod LoopCommands
pub mod commands
pub mod CommandMeanings
pub mod RunFaults
