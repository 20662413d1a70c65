use Rattle.gx_base.specs.declared.kinds.Kind.TheVariants.{Set, Cells}
use Rattle.gx_base.specs.TableRows.{row_of}
use Rattle.kind_tables.proofs.CallerLemmas.{chosen-none, shipped-none, class-none, below-none}
use Rattle.shared_sets.specs.SetTables.{set_tables}
use Rattle.shared_sets.specs.CellsTables.{cells_tables}
use Rattle.shared_sets.specs.SetValidity.{set_facts}
use Rattle.shared_sets.specs.CellsValidity.{cells_facts}
use Rattle.shared_sets.proofs.tables.SilentTables.{set_tables-silent, cells_tables-silent}
use Rattle.shared_sets.proofs.laws.shipped_tables_are_not_general.Goals as goal

pub returns-clause-sets : goal.returns-clause-sets
returns-clause-sets c = λ choice table is. class-none Set (row_of table) (shipped-none set_tables choice table (chosen-none 0 set_tables set_facts choice (λ p. set_tables-silent)) is)

pub returns-clause-cells : goal.returns-clause-cells
returns-clause-cells c = λ choice table is. class-none Cells (row_of table) (shipped-none cells_tables choice table (chosen-none 1 cells_tables cells_facts choice (λ p. cells_tables-silent)) is)

pub returns-clause-below_sets : goal.returns-clause-below_sets
returns-clause-below_sets c = λ choice table lower is. below-none Set (row_of table) (row_of lower) (shipped-none set_tables choice table (chosen-none 0 set_tables set_facts choice (λ p. set_tables-silent)) is)

pub returns-clause-below_cells : goal.returns-clause-below_cells
returns-clause-below_cells c = λ choice table lower is. below-none Cells (row_of table) (row_of lower) (shipped-none cells_tables choice table (chosen-none 1 cells_tables cells_facts choice (λ p. cells_tables-silent)) is)
