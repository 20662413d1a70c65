-- No precise row of points names the state function of the later call.
use Rattle.std.specs.Prelude.{◌≡◌, false, refl}
use Rattle.gx_base.specs.declared.conditions.Side.TheVariants.{Second}
use Rattle.gx_base.specs.Below.{names_state}
use Rattle.gx_base.specs.PointKind.{PointDeed, Add, Remove, At, Nearest, Nothing, point_deed}
use Rattle.kind_tables.proofs.CallerLemmas.{IsSilent}
use Rattle.kd_points.specs.PointTables.{precise_point, point_tables}

point_silent : (d e : PointDeed) → names_state Second (precise_point d e) ≡ false
point_silent Add Add = refl
point_silent Remove Add = refl
point_silent At Add = refl
point_silent Nearest Add = refl
point_silent Nothing e = refl
point_silent d e = refl

pub point_tables-silent : IsSilent point_tables.precise
point_tables-silent first second = point_silent (point_deed first) (point_deed second)
