pub mod GradeLemmas
pub mod Greatest
pub mod TableLemmas
