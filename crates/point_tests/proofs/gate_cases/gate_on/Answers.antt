use Rattle.gx_base.specs.declared.kinds.Kind.TheVariants.{Points}
use Rattle.gx_base.specs.declared.kinds.Choice.TheVariants.{Precise}
use Rattle.point_tests.proofs.gate_cases.gate_on.Goals as goal

pub new-requires-2-clause-valid : goal.new-requires-2-clause-valid
new-requires-2-clause-valid c = c.shipped_tables_serve_gates.ensures.valid Points Precise c.in_ok-table.table c.in_ok-table.ensures
