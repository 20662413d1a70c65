-- What the nearest point is.
use Rattle.std.specs.Prelude.{◌≡◌, false, Option, Some, None}
use Rattle.std.specs.Ordering.{int_eq}
use Rattle.gx_base.specs.declared.calls.Spot.{Spot}
use Rattle.gx_base.specs.States.{State}
use Rattle.gx_base.specs.Spots.{beyond}
use Rattle.gx_base.specs.PointKind.{spot_at}

-- a point of another id than the spot's
pub record IsOther (s : State) (q r : Spot) : Type 0 where
  pub there : spot_at s r.id ≡ Some r
  pub other : int_eq r.id q.id ≡ false

-- this is the nearest point, or there is none
abbrev pub IsNearest : State → Spot → Option Spot → Type 0
IsNearest s q None = (r : Spot) → IsOther s q r → ⊥
IsNearest s q (Some n) = IsOther s q n × ((r : Spot) → IsOther s q r → beyond q n r ≡ false)
