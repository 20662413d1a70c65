use Rattle.gx_base.specs.declared.kinds.Kind.TheVariants.{Points}
use Rattle.gx_base.specs.ShippedTables.{rows_chosen}
use Rattle.kind_tables.proofs.CallerLemmas.{chosen-none, class-none}
use Rattle.kd_points.specs.PointTables.{point_tables}
use Rattle.kd_points.specs.PointValidity.{point_facts}
use Rattle.kd_points.proofs.tables.SilentTables.{point_tables-silent}
use Rattle.run_commands.proofs.cloud_tables.points_table.Goals as goal

pub run_table-requires-clause-scanned : goal.run_table-requires-clause-scanned
run_table-requires-clause-scanned c = λ shipped. class-none Points (rows_chosen point_tables shipped) (chosen-none 3 point_tables point_facts shipped (λ precise. point_tables-silent))
