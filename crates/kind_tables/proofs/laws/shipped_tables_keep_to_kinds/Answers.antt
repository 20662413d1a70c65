use Rattle.kind_tables.proofs.kinds.AllKinds.{tables_of-SuitKind}
use Rattle.kind_tables.proofs.laws.shipped_tables_keep_to_kinds.Goals as goal

pub returns : goal.returns
returns c = λ kind. (tables_of-SuitKind kind).keeps_to_kind
