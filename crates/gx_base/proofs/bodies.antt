pub mod BodyReplays
pub mod ReplyRuns
