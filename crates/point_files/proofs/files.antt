pub mod RowFields
pub mod TextRows
pub mod RowRuns
pub mod FileAnswers
