-- Where a clustering starts: all points are there, and each has the weight 1.
use Rattle.std.specs.Prelude.{ℕ, pos, List, [], ◌∷◌, map}
use Rattle.std.specs.FinMap as finite
use Rattle.std.specs.List.{fold}
use Rattle.gx_base.specs.declared.calls.Spot.{Spot}
use Rattle.gx_base.specs.declared.items.Item.{Item}
use Rattle.gx_base.specs.declared.kinds.Kind.TheVariants.{Cells, Points}
use Rattle.gx_base.specs.Kinds.{kind_number}
use Rattle.gx_base.specs.Replays.{in_rooms}
use Rattle.gx_base.specs.States.{State}
use Rattle.gx_base.specs.Steps.{next_state}
use Rattle.clustering.specs.PointCalls.{add, set}
use Rattle.clustering.specs.Chain.{id_item}

abbrev pub no_points : State
no_points = record { kind = kind_number Points; rows = finite.empty }

abbrev pub no_cells : State
no_cells = record { kind = kind_number Cells; rows = finite.empty }

-- a point more, and the weight 1 for a point
abbrev pub added : State → Spot → State
added s spot = next_state s (add spot)

abbrev pub weighing_one : State → Spot → State
weighing_one s spot = next_state s (set spot.id (pos 1))

abbrev pub start_points : List Spot → State
start_points spots = fold added no_points spots

abbrev pub start_weights : List Spot → State
start_weights spots = fold weighing_one no_cells spots

abbrev pub start_states : List Spot → ℕ → State
start_states spots = in_rooms (start_points spots ∷ start_weights spots ∷ [])

abbrev pub start_ready : List Spot → List Item
start_ready spots = map (λ spot. id_item spot.id) spots
