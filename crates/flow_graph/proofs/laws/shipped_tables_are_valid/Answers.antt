use Rattle.gx_base.specs.declared.kinds.Kind.TheVariants.{Flow}
use Rattle.kind_tables.proofs.CallerLemmas.{tables_of-SuitKind}
use Rattle.flow_graph.proofs.laws.shipped_tables_are_valid.Goals as goal

pub returns : goal.returns
returns c = (tables_of-SuitKind Flow).valid
