use Rattle.gx_base.specs.declared.kinds.Kind.TheVariants.{Points}
use Rattle.gx_base.specs.TableRows.{row_of}
use Rattle.kind_tables.proofs.CallerLemmas.{chosen-none, shipped-none, class-none, below-none}
use Rattle.kd_points.specs.PointTables.{point_tables}
use Rattle.kd_points.specs.PointValidity.{point_facts}
use Rattle.kd_points.proofs.tables.SilentTables.{point_tables-silent}
use Rattle.kd_points.proofs.laws.shipped_tables_are_not_general.Goals as goal

pub returns-clause-shipped : goal.returns-clause-shipped
returns-clause-shipped c = λ choice table is. class-none Points (row_of table) (shipped-none point_tables choice table (chosen-none 3 point_tables point_facts choice (λ p. point_tables-silent)) is)

pub returns-clause-below : goal.returns-clause-below
returns-clause-below c = λ choice table lower is. below-none Points (row_of table) (row_of lower) (shipped-none point_tables choice table (chosen-none 3 point_tables point_facts choice (λ p. point_tables-silent)) is)
