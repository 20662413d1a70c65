pub mod PointMethods
pub mod PointTables
pub mod NearestPoints
pub mod PointValidity
pub mod PointsState
pub mod PointLists
pub mod SuitedTables
