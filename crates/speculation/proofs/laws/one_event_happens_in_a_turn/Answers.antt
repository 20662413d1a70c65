use Rattle.speculation.proofs.EventLemmas.{happens, no_other}
use Rattle.speculation.proofs.laws.one_event_happens_in_a_turn.Goals as goal

pub returns-clause-happens : goal.returns-clause-happens
returns-clause-happens c = happens

pub returns-clause-no_other : goal.returns-clause-no_other
returns-clause-no_other c = λ op m worker event next h. (no_other op m worker event next h).0

pub returns-clause-one_machine : goal.returns-clause-one_machine
returns-clause-one_machine c = λ op m worker event next h. (no_other op m worker event next h).1
