pub mod ConditionLemmas
pub mod DraftLemmas
pub mod LevelLemmas
pub mod ReaderLemmas
