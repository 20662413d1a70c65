-- Which texts are files of points, of which points, which row of another text is its first fault, and how many points
-- may be read.
use Rattle.std.specs.Prelude.{◌≡◌, ℕ, suc, ◌-◌, ◌≤◌, ◌<◌, pos, List, [], ◌∷◌, length, map, take, slice_get, Option, Some, None, IsSome, Result, Ok, Err}
use Rattle.std.specs.List.{AllByRecursion}
use Rattle.csv.specs.Reading.{AreRecords, default_config, strip_bom}
use Rattle.csv.specs.declared.parser.State.TheVariants as st
use Rattle.gx_base.specs.declared.calls.Spot.{Spot}
use Rattle.gx_base.specs.declared.inputs.What.{What}
use Rattle.gx_base.specs.declared.inputs.What.TheVariants.{Points}
use Rattle.gx_base.specs.declared.inputs.InputFault.{InputFault}
use Rattle.gx_base.specs.declared.inputs.InputFault.TheVariants.{Line, Large, NoMemory}
use Rattle.std.specs.Global.{Vec}
use Rattle.point_files.specs.PointRows.{FileRow, Coordinates, coordinates_in}

-- the rows of a text, as CSV has them: without a header, and past a byte order mark
abbrev pub AreRows : List ℕ → List FileRow → Type 0
AreRows bytes rows = AreRecords default_config st.StartRecord (strip_bom bytes) rows

-- a point of the plane
abbrev pub spot_in : ℕ → Coordinates → Spot
spot_in n place = record { id = pos n; x = place.0; y = place.1; z = pos 0 }

-- points at these places, numbered on from n
abbrev pub numbered_spots : ℕ → List Coordinates → List Spot
numbered_spots n [] = []
numbered_spots n (place ∷ places) = spot_in n place ∷ numbered_spots (suc n) places

-- the bytes are a file of these points: each row says where one stands, and they are numbered from 0
pub record IsPointsFile (bytes : List ℕ) (spots : List Spot) : Type 0 where
  pub rows : List FileRow
  pub are_rows : AreRows bytes rows
  pub places : List Coordinates
  pub each : map coordinates_in rows ≡ map (λ place. Some place) places
  pub are : spots ≡ numbered_spots 0 places

-- row k, from 1, says of no point where it stands, and each row before it does
pub record IsFirstBadRow (bytes : List ℕ) (k : ℕ) : Type 0 where
  pub rows : List FileRow
  pub are_rows : AreRows bytes rows
  pub from_one : 1 ≤ k
  pub before : AllByRecursion (λ row. IsSome (coordinates_in row)) (take (k - 1) rows)
  pub row : FileRow
  pub at : slice_get rows (k - 1) ≡ Some row
  pub faulty : coordinates_in row ≡ None

abbrev pub most_points : ℕ
most_points = 20000

-- the bytes are a file of these points, which may be read
pub record IsReadable (bytes : List ℕ) (spots : List Spot) : Type 0 where
  pub is_file : IsPointsFile bytes spots
  pub within : length spots ≤ most_points

-- the bytes are a file of more points than may be read
pub record IsTooLarge (bytes : List ℕ) : Type 0 where
  pub spots : List Spot
  pub is_file : IsPointsFile bytes spots
  pub passes : most_points < length spots

-- what a text calls for
abbrev pub CallsFor : List ℕ → Result (List Spot) InputFault → Type 0
CallsFor bytes (Ok spots) = IsReadable bytes spots
CallsFor bytes (Err (Line k)) = IsFirstBadRow bytes k
CallsFor bytes (Err (Large Points)) = IsTooLarge bytes
CallsFor bytes (Err (Large what)) = ⊥
CallsFor bytes (Err NoMemory) = ⊥

-- a text calls for just one of these
pub record CallsForOne (bytes : List ℕ) : Type 0 where
  pub answer : Result (List Spot) InputFault
  pub calls : CallsFor bytes answer
  pub only : (other : Result (List Spot) InputFault) → CallsFor bytes other → other ≡ answer

-- what was answered, with points as contracts see them
abbrev pub answer_of : Result (Vec Spot) InputFault → Result (List Spot) InputFault
answer_of (Ok spots) = Ok spots.items
answer_of (Err fault) = Err fault
