pub mod EntryLists
pub mod Walking
pub mod Others
