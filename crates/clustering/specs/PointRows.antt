-- The coordinates that a row of a file of points tells, passed on.
pub use Rattle.point_files.specs.PointRows.{Coordinates}
