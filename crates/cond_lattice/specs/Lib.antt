pub mod Grades
pub mod Same
pub mod Derivations
pub mod AnswerRows
pub mod Simple
pub mod Tables
