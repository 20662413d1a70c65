pub mod Answered
pub mod Drafts
pub mod Found
pub mod Levels
pub mod LineAnswers
pub mod Pairs
pub mod Readers
pub mod TextFaults
