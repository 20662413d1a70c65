use Rattle.std.proofs.Common.{◌≡◌, length}
use Rattle.session_cases.specs.Beginnings.{AreNewGates}
use Rattle.session_cases.proofs.networks.flow_gates.Given as goal

abbrev pub invariant-loop-shard : goal.invariant-loop-shard
invariant-loop-shard l = AreNewGates l.values.items × (length l.values.items ≡ length l.yielded)
