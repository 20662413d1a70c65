use Rattle.std.proofs.Common.{◌<◌, sym, rules, tests}
use Rattle.gate_tests.proofs.objects.EmptySets.{quiet}
use Rattle.gate_tests.proofs.meagre_cases.MeagreSeqType.undo.Goals as goal

pub returns-clause-state : goal.returns-clause-state
returns-clause-state c = let low : 1 < c.args._call.method = search (rules, tests) in sym ((quiet c.args._call low).undone c.args._reply)
