use Rattle.std.proofs.Common.{◌<◌, arith, sym}
use Rattle.gate_tests.proofs.objects.EmptySets.{quiet}
use Rattle.gate_tests.proofs.meagre_cases.MeagreSeqType.apply.Goals as goal

pub returns-clause-reply : goal.returns-clause-reply
returns-clause-reply c = let low : 1 < c.args.call.method = omega arith in sym (quiet c.args.call low).reply

pub returns-clause-ok : goal.returns-clause-ok
returns-clause-ok c = let low : 1 < c.args.call.method = omega arith in sym (quiet c.args.call low).next
