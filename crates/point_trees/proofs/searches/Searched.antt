-- What a search knows: what has been found, and what is still to be visited.
use Rattle.std.specs.Prelude.{◌≡◌, ℕ, zero, suc, ◌≤◌, false, Option, Some, None, List, [], ◌∷◌, ◌⊎◌}
use Rattle.std.specs.Ordering.{int_eq}
use Rattle.gx_base.specs.declared.calls.Spot.{Spot}
use Rattle.gx_base.specs.Spots.{beyond, distance}
use Rattle.point_trees.specs.declared.search.Pending.{Pending}
use Rattle.point_trees.specs.Trees.{Nodes, child_of, is_bare}
use Rattle.point_trees.proofs.trees.LiveNodes.{IsNodeOf, IsLive}

-- after so many steps the spot's way from here comes to its live node, past none that is bare
abbrev pub Leads : Nodes → Spot → ℕ → Option ℕ → Type 0
Leads look r k None = ⊥
Leads look r zero (Some i) = IsNodeOf (look i) r × (is_bare (look i) ≡ false)
Leads look r (suc k) (Some i) = Leads look r k (child_of (look i) r) × (is_bare (look i) ≡ false)

-- this one is no farther from q than r
abbrev pub Within : Spot → Option Spot → Spot → Type 0
Within q None r = ⊥
Within q (Some n) r = beyond q n r ≡ false

-- a point of another id than the spot's
abbrev pub IsLiveOther : Nodes → Spot → Spot → Type 0
IsLiveOther look q r = IsLive look r × (int_eq r.id q.id ≡ false)

-- the point stands under this node, and is at least as far from the spot as what is noted there
abbrev pub IsAwaited : Nodes → Spot → Pending → Spot → Type 0
IsAwaited look q next r = ((k : ℕ) × Leads look r k (Some next.from)) × (next.reach ≤ distance q r)

-- the point stands under one of these nodes
abbrev pub IsAwaitedIn : Nodes → Spot → List Pending → Spot → Type 0
IsAwaitedIn look q [] r = ⊥
IsAwaitedIn look q (next ∷ waiting) r = IsAwaited look q next r ⊎ IsAwaitedIn look q waiting r

-- every other point is no nearer than the best so far, or is still to be visited
pub record IsSearched (look : Nodes) (q : Spot) (best : Option Spot) (waiting : List Pending) : Type 0 where
  pub covered : (r : Spot) → IsLiveOther look q r → Within q best r ⊎ IsAwaitedIn look q waiting r
  pub source : (n : Spot) → best ≡ Some n → IsLiveOther look q n
