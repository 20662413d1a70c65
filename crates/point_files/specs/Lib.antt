pub mod PointRows
pub mod PointFiles
pub mod PointReading
