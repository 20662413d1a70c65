use Rattle.gx_base.specs.declared.kinds.Kind.TheVariants.{Set}
use Rattle.gx_base.specs.declared.kinds.Choice.TheVariants.{Precise}
use Rattle.gate_tests.proofs.gate_cases.set_gate.Goals as goal

pub new-gate-requires-clause-valid : goal.new-gate-requires-clause-valid
new-gate-requires-clause-valid c = c.shipped_tables_serve_gates.ensures.valid Set Precise c.in_ok-table.table c.in_ok-table.ensures
