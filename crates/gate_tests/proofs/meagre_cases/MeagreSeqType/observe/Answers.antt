use Rattle.gate_tests.proofs.objects.EmptySets.{unseen}
use Rattle.gate_tests.proofs.meagre_cases.MeagreSeqType.observe.Goals as goal

pub returns : goal.returns
returns c = unseen c.args._x
