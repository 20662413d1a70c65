use Rattle.gx_base.specs.declared.kinds.Kind.TheVariants.{Cells}
use Rattle.gx_base.specs.ShippedTables.{rows_chosen}
use Rattle.kind_tables.proofs.CallerLemmas.{chosen-none, class-none}
use Rattle.shared_sets.specs.CellsTables.{cells_tables}
use Rattle.shared_sets.specs.CellsValidity.{cells_facts}
use Rattle.shared_sets.proofs.tables.SilentTables.{cells_tables-silent}
use Rattle.run_commands.proofs.cloud_tables.cells_table.Goals as goal

pub run_table-requires-clause-scanned : goal.run_table-requires-clause-scanned
run_table-requires-clause-scanned c = λ shipped. class-none Cells (rows_chosen cells_tables shipped) (chosen-none 1 cells_tables cells_facts shipped (λ precise. cells_tables-silent))
