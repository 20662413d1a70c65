pub mod LineAnswers
pub mod LineFaults
pub mod LineReading
pub mod ReadTables
pub mod TableLemmas
pub mod TextAnswers
