use Rattle.gx_base.specs.declared.kinds.Kind.TheVariants.{Flow}
use Rattle.gx_base.specs.declared.kinds.Choice.TheVariants.{Precise}
use Rattle.session_cases.proofs.networks.flow_gate.Goals as goal

pub new-requires-2-clause-valid : goal.new-requires-2-clause-valid
new-requires-2-clause-valid c = c.shipped_tables_serve_gates.ensures.valid Flow Precise c.in_ok-table.table c.in_ok-table.ensures
