use Rattle.kind_tables.proofs.kinds.AllKinds.{facts_of}
use Rattle.kind_tables.proofs.laws.simple_rows_are_strengthened.Goals as goal

pub returns : goal.returns
returns c = λ kind. (facts_of kind).strengthened
