use Rattle.gx_base.specs.declared.kinds.Kind.TheVariants.{Cells}
use Rattle.gx_base.specs.declared.kinds.Choice.TheVariants.{Precise}
use Rattle.session_cases.proofs.busy_cases.cells_gate.Goals as goal

pub new-requires-2-clause-valid : goal.new-requires-2-clause-valid
new-requires-2-clause-valid c = c.shipped_tables_serve_gates.ensures.valid Cells Precise c.in_ok-table.table c.in_ok-table.ensures
