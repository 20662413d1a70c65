-- Reading a file of points row by row, one level below what such a file is: what has been read so far.
use Rattle.std.specs.Prelude.{◌≡◌, ℕ, ◌≤◌, List, length, map, Some, ⊤}
use Rattle.gx_base.specs.declared.inputs.InputFault.{InputFault}
use Rattle.gx_base.specs.declared.inputs.InputFault.TheVariants.{Line, Large, NoMemory}
use Rattle.point_files.specs.declared.reading.RowsRead.{RowsRead}
use Rattle.point_files.specs.PointRows.{FileRow, Coordinates, coordinates_in}
use Rattle.point_files.specs.PointFiles.{AreRows, IsFirstBadRow, numbered_spots, most_points}

-- these rows say where points stand, and as many of the points as may be read are kept
pub record HasRead (rows : List FileRow) (seen : RowsRead) : Type 0 where
  pub places : List Coordinates
  pub each : map coordinates_in rows ≡ map (λ place. Some place) places
  pub count : seen.rows ≡ length rows
  pub kept : seen.rows ≤ most_points → seen.spots.items ≡ numbered_spots 0 places

-- all rows of a text were read
pub record HasReadAll (bytes : List ℕ) (seen : RowsRead) : Type 0 where
  pub rows : List FileRow
  pub are_rows : AreRows bytes rows
  pub has_read : HasRead rows seen

-- why no more was read
abbrev pub StopsReading : List ℕ → InputFault → Type 0
StopsReading bytes (Line k) = IsFirstBadRow bytes k
StopsReading bytes (Large what) = ⊥
StopsReading bytes NoMemory = ⊤
