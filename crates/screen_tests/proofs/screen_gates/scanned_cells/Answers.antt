use Rattle.gx_base.specs.declared.kinds.Kind.TheVariants.{Cells}
use Rattle.gx_base.specs.declared.kinds.Choice.TheVariants.{Simple}
use Rattle.screen_tests.proofs.screen_gates.scanned_cells.Goals as goal

pub new-requires-2-clause-valid : goal.new-requires-2-clause-valid
new-requires-2-clause-valid c = c.shipped_tables_serve_gates.ensures.valid Cells Simple c.in_ok-table.table c.in_ok-table.ensures
