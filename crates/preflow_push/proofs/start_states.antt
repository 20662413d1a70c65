pub mod FlowRooms
pub mod FlowWrites
pub mod FlowPours
pub mod ReadyNodes
pub mod StartLaws
pub mod ReadyLaws
