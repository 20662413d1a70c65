pub mod BookViews
pub mod Commits
pub mod Homes
pub mod LawfulBooks
pub mod Moves
pub mod SerialRuns
pub mod StoredBooks
