-- The calls of points and of cells, and the rooms that they stand in.
use Rattle.std.specs.Prelude.{ℕ, ◌+◌, ℤ, pos}
use Rattle.gx_base.specs.declared.calls.Call.{Call}
use Rattle.gx_base.specs.declared.calls.Spot.{Spot}
use Rattle.gx_base.specs.PointKind.{point_first}
use Rattle.gx_base.specs.CellsKind.{cells_first}

-- the points stand in room 0, and the cells in room 1
abbrev pub points_room : ℕ
points_room = 0

abbrev pub cells_room : ℕ
cells_room = 1

abbrev pub rooms : ℕ
rooms = 2

-- a call on a point, by its number and its place
abbrev pub point_call : ℕ → Spot → Call
point_call method spot = record { method = method; a = spot.id; b = spot.x; c = spot.y; d = spot.z }

abbrev pub add : Spot → Call
add spot = point_call point_first spot

abbrev pub remove : Spot → Call
remove spot = point_call (point_first + 1) spot

abbrev pub nearest : Spot → Call
nearest spot = point_call (point_first + 3) spot

-- a call by one number or two
abbrev pub number_call : ℕ → ℤ → ℤ → Call
number_call method a b = record { method = method; a = a; b = b; c = pos 0; d = pos 0 }

abbrev pub at : ℤ → Call
at id = number_call (point_first + 2) id (pos 0)

abbrev pub read : ℤ → Call
read key = number_call cells_first key (pos 0)

abbrev pub set : ℤ → ℤ → Call
set key number = number_call (cells_first + 2) key number
