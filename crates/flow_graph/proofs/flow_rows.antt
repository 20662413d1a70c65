pub mod RowLaws
pub mod Writes
pub mod Rooms
pub mod Unwritten
