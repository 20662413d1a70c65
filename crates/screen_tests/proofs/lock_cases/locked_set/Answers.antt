use Rattle.gx_base.specs.declared.kinds.Kind.TheVariants.{Set}
use Rattle.gx_base.specs.declared.kinds.Choice.TheVariants.{Simple}
use Rattle.screen_tests.proofs.lock_cases.locked_set.Goals as goal

pub new-gate-requires-clause-valid : goal.new-gate-requires-clause-valid
new-gate-requires-clause-valid c = c.shipped_tables_serve_gates.ensures.valid Set Simple c.in_ok-table.table c.in_ok-table.ensures
