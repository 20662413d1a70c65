use Rattle.speculation.proofs.Names.{conflict_names}
use Rattle.speculation.proofs.laws.a_conflict_names_the_greater.Goals as goal

pub returns : goal.returns
returns c = conflict_names
