use Rattle.gx_base.specs.declared.kinds.Kind.TheVariants.{Flow}
use Rattle.gx_base.specs.declared.kinds.Choice.TheVariants.{Precise}
use Rattle.system_tests.proofs.class_cases.compare_with_shipped.Goals as goal

pub compare-requires : goal.compare-requires
compare-requires c = c.shipped_tables_serve_gates.ensures.valid Flow Precise c.in_ok-shipped.shipped c.in_ok-shipped.ensures
