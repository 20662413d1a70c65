pub mod Plays
pub mod PlayedTurns
