pub mod SetRowLaws
pub mod SetTurns
pub mod CellRowLaws
