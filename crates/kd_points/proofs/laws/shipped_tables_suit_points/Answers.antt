use Rattle.std.proofs.Common.{refl}
use Rattle.gx_base.specs.declared.kinds.Kind.TheVariants.{Points}
use Rattle.kd_points.specs.SuitedTables.{point_tables-SuitKind}
use Rattle.kd_points.proofs.laws.shipped_tables_suit_points.Goals as goal

pub returns : goal.returns
returns c = point_tables-SuitKind Points refl
