use Rattle.gx_base.specs.TableRows.{row_of}
use Rattle.kind_tables.proofs.classes.GradeLaws.{shipped-table-none, class-none, below-none}
use Rattle.kind_tables.proofs.laws.tables_below_shipped_ones_are_not_general.Goals as goal

pub returns : goal.returns
returns c = record {
  shipped = λ kind choice table n is. class-none kind (row_of table) (shipped-table-none kind choice table n is);
  below = λ kind choice table lower n is. below-none kind (row_of table) (row_of lower) (shipped-table-none kind choice table n is);
}
