-- The pairs along the chain of a body, as its calls of `nearest` and their replies tell them.
use Rattle.std.specs.Prelude.{◌≡◌, ◌⊎◌, ◌+◌, ◌==◌, ◌&&◌, not, negsuc, List, [], ◌∷◌, if◌then◌else◌, ⊤}
use Rattle.std.specs.List.{AllByRecursion}
use Rattle.std.specs.Ordering.{int_eq}
use Rattle.std.specs.declared.cmp.Ordering.TheVariants.{Less}
use Rattle.gx_base.specs.declared.acts.Step.{Step}
use Rattle.gx_base.specs.declared.calls.Spot.{Spot}
use Rattle.gx_base.specs.Outcomes.{WholeCommit}
use Rattle.gx_base.specs.PointKind.{point_first}
use Rattle.gx_base.specs.Spots.{pk, key_cmp, spot_of_call, spot_of_reply}
use Rattle.clustering.specs.PointCalls.{points_room}

-- a point that was asked for, and the nearest one to it
abbrev pub Pair : Type 0
Pair = Spot × Spot

-- the pairs that steps find, in their order: those of the calls of `nearest` that didn't reply that there is no other point
abbrev pub found_before : Step → List Pair → List Pair
found_before step pairs =
    if (step.room == points_room) && (step.call.method == point_first + 3) && not (int_eq step.reply.p (negsuc 0)) then (spot_of_call step.call, spot_of_reply step.reply) ∷ pairs
    else pairs

abbrev pub pairs_of : List Step → List Pair
pairs_of [] = []
pairs_of (step ∷ steps) = found_before step (pairs_of steps)

-- the next pair goes on from the point that was found, and has a smaller key; or it goes back, and is the last one
abbrev pub FallsTo : Pair → List Pair → Type 0
FallsTo pair [] = ⊤
FallsTo pair (next ∷ pairs) = (next.0 ≡ pair.1) × ((key_cmp (pk next.0 next.1) (pk pair.0 pair.1) ≡ Less) ⊎ ((next.1 ≡ pair.0) × (pairs ≡ [])))

abbrev pub KeysFall : List Pair → Type 0
KeysFall [] = ⊤
KeysFall (pair ∷ pairs) = FallsTo pair pairs × KeysFall pairs

-- so it is in the body of each commit
abbrev pub KeysFallInEach : List WholeCommit → Type 0
KeysFallInEach commits = AllByRecursion (λ c. KeysFall (pairs_of c.outcome.steps)) commits
