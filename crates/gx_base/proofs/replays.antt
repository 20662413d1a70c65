pub mod CallReplays
pub mod RoomReplays
