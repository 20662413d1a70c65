pub mod EnteredRooms
pub mod FirstRooms
pub mod LeftRooms
pub mod ToldRooms
