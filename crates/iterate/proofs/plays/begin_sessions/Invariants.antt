use Rattle.std.proofs.Common.{◌≡◌, length}
use Rattle.iterate.specs.PlayedTurns.{AreBegun}
use Rattle.iterate.proofs.plays.begin_sessions.Given as goal

abbrev pub invariant-loop-worker : goal.invariant-loop-worker
invariant-loop-worker g l = record {
  count : length l.sessions.items ≡ l.worker;
  begun : AreBegun (g.O.Operator.rest l._op) l.sessions.items;
}
