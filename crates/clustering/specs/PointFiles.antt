-- Files of points, and what their texts call for, passed on.
pub use Rattle.point_files.specs.PointFiles.{spot_in, numbered_spots, most_points, IsReadable, CallsFor, answer_of}
