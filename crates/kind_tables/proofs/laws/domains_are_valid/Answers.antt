use Rattle.gx_base.specs.declared.kinds.Kind.TheVariants.{Domains}
use Rattle.kind_tables.proofs.kinds.AllKinds.{tables_of-SuitKind}
use Rattle.kind_tables.proofs.laws.domains_are_valid.Goals as goal

pub returns : goal.returns
returns c = (tables_of-SuitKind Domains).valid
