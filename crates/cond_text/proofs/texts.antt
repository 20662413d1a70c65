pub mod LineSteps
pub mod OneAnswer
pub mod PairLemmas
pub mod RowFaults
