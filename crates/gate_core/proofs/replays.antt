pub mod StateTerms
pub mod Swapping
pub mod Leaving
pub mod Failing
pub mod EntryReplays
