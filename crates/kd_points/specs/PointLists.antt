-- The points of a state as a list.
use Rattle.std.specs.Prelude.{◌≡◌, ℕ, ℤ, true, is_some, Some, List}
use Rattle.std.specs.HashSet.{contains}
use Rattle.std.specs.List.{Contains}
use Rattle.std.specs.Ordering.{int_eq}
use Rattle.gx_base.specs.declared.calls.Spot.{Spot}
use Rattle.gx_base.specs.declared.kinds.Kind.TheVariants.{Points}
use Rattle.gx_base.specs.Kinds.{kind_number}
use Rattle.gx_base.specs.States.{State, row_at}
use Rattle.kd_points.specs.declared.choosing.Chosen.{Chosen}
use Rattle.point_trees.specs.TreeStates.{place}
use Rattle.point_trees.specs.Rebuilding.{HaveOwnIds}

-- these are the points of the state, each once
pub record ArePoints (s : State) (points : List Spot) : Type 0 where
  pub kind : s.kind ≡ kind_number Points
  pub own : HaveOwnIds points
  pub only : (r : Spot) → Contains points r → row_at s (0, r.id) ≡ Some (place r)
  pub every : (key : ℕ × ℤ) → is_some (row_at s key) ≡ true → (r : Spot) × Contains points r × (key ≡ (0, r.id))

-- so many spots are the points of the state, and it is known which ids they have
pub record IsChosen (s : State) (chosen : Chosen) : Type 0 where
  pub points : ArePoints s chosen.spots.items
  pub noted : (id : ℤ) → contains int_eq chosen.numbers id ≡ is_some (row_at s (0, id))
