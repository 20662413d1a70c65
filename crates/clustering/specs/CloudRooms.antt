-- The points and the cells in the states of rooms. A room of another kind, or none, counts as empty.
use Rattle.std.specs.Prelude.{ℕ, ℤ, pos, ◌==◌, if◌then◌else◌, Option, None}
use Rattle.gx_base.specs.declared.calls.Spot.{Spot}
use Rattle.gx_base.specs.declared.kinds.Kind.TheVariants.{Cells, Points}
use Rattle.gx_base.specs.Kinds.{kind_number}
use Rattle.gx_base.specs.PointKind.{spot_at}
use Rattle.gx_base.specs.States.{State, number_at}
use Rattle.clustering.specs.PointCalls.{points_room, cells_room}

-- the point of a number
abbrev pub point_of : State → ℤ → Option Spot
point_of s id = if s.kind == kind_number Points then spot_at s id else None

-- the number of a key
abbrev pub cell_of : State → ℤ → ℤ
cell_of s key = if s.kind == kind_number Cells then number_at s (0, key) else pos 0

abbrev pub point_in : (ℕ → State) → ℤ → Option Spot
point_in states id = point_of (states points_room) id

abbrev pub cell_in : (ℕ → State) → ℤ → ℤ
cell_in states key = cell_of (states cells_room) key
