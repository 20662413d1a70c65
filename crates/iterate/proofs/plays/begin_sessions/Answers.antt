use Rattle.std.proofs.Common.{sym, ◌∙◌, ap, subst, arith}
use Rattle.iterate.specs.PlayedTurns.{AreBegun}
use Rattle.sessions.specs.SessionViews.{begun_view}
use Rattle.iterate.proofs.Beginnings.{one_more_begun}
use Rattle.iterate.proofs.plays.begin_sessions.Goals as goal

pub loop-worker-preserved : goal.loop-worker-preserved
loop-worker-preserved g c =
    let rest = g.O.Operator.rest c.args._op.now in
    let xs = c.loop-worker.sessions.items in
    record {
      count = omega (arith, c.in-Ok.ensures.len, c.push.new.self.ok, c.loop-worker.sessions.ok, c.loop-worker.invariant.count);
      begun = subst (AreBegun rest) (sym c.in-Ok.ensures.items) (one_more_begun rest xs c.new-session.result c.loop-worker.invariant.begun (c.new-session.ensures c.args._op.now ∙ ap begun_view (sym c.loop-worker.invariant.count)));
    }
