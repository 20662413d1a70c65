-- What the methods of points do, as the meanings of calls name it.
use Rattle.std.specs.Prelude.{Option, Some, None}
use Rattle.gx_base.specs.PointKind as meaning
use Rattle.kd_points.specs.declared.point_methods.PointDeed.{PointDeed}
use Rattle.kd_points.specs.declared.point_methods.PointDeed.TheVariants.{Add, Remove, At, Nearest}

abbrev pub deed_in : PointDeed → meaning.PointDeed
deed_in Add = meaning.Add
deed_in Remove = meaning.Remove
deed_in At = meaning.At
deed_in Nearest = meaning.Nearest

abbrev pub deed_from : Option PointDeed → meaning.PointDeed
deed_from None = meaning.Nothing
deed_from (Some deed) = deed_in deed
