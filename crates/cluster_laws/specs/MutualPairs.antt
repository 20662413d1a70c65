-- The two points that a commit makes one are each other's nearest.
use Rattle.std.specs.Prelude.{◌≡◌, ◌+◌, ◌==◌, ◌&&◌, pos, Some, List, [], ◌∷◌, if◌then◌else◌, ⊤}
use Rattle.std.specs.Ordering.{int_eq}
use Rattle.gx_base.specs.declared.acts.Step.{Step}
use Rattle.gx_base.specs.declared.calls.Spot.{Spot}
use Rattle.gx_base.specs.PointKind.{point_first, spot_at, nearest}
use Rattle.gx_base.specs.Spots.{spot_of_call}
use Rattle.gx_base.specs.States.{State}
use Rattle.clustering.specs.PointCalls.{points_room}

-- both points are there, and each is the nearest one to the other
pub record AreMutual (s : State) (u v : Spot) : Type 0 where
  pub first : spot_at s u.id ≡ Some u
  pub second : spot_at s v.id ≡ Some v
  pub nearest_first : nearest s u ≡ Some v
  pub nearest_second : nearest s v ≡ Some u

-- the points that steps take out, in their order: those of the removes that replied 1
abbrev pub taken_before : Step → List Spot → List Spot
taken_before step spots =
    if (step.room == points_room) && (step.call.method == point_first + 1) && int_eq step.reply.p (pos 1) then spot_of_call step.call ∷ spots
    else spots

abbrev pub taken_out : List Step → List Spot
taken_out [] = []
taken_out (step ∷ steps) = taken_before step (taken_out steps)

-- no point, or two that were each other's nearest in this state
abbrev pub AreNoneOrMutual : State → List Spot → Type 0
AreNoneOrMutual s [] = ⊤
AreNoneOrMutual s (u ∷ []) = ⊥
AreNoneOrMutual s (u ∷ v ∷ []) = AreMutual s u v
AreNoneOrMutual s (u ∷ v ∷ w ∷ spots) = ⊥
