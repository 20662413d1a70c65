use Rattle.std.proofs.Common.{◌≡◌, sym, ◌∙◌, ap, arith}
use Rattle.speculation.specs.ScheduledRuns.{Run, drain_worker, drain}
use Rattle.rooms.specs.Values.{tells}
use Rattle.rooms.specs.Visits.{view_of as rooms_view}
use Rattle.iterate.specs.PlayedTurns.{sessions_of, run_of}
use Rattle.iterate.proofs.Drains.{drain_none, drain_next}
use Rattle.iterate.proofs.ToldTurns.{adds_nothing, adds_more}
use Rattle.iterate.proofs.draining.drain_first.Goals as goal

pub loop-worker-init : goal.loop-worker-init
loop-worker-init g c = record {
  workers = c.requires.workers;
  run = sym (drain_none (run_of (rooms_view tells c.args.rooms.now) (sessions_of (g.O.Operator.rest c.args.op.now) c.args.sessions.now) c.args.trace.now.items));
  told = adds_nothing c.args.trace.now.items;
  fit = c.requires.fit;
}

pub loop-worker-preserved : goal.loop-worker-preserved
loop-worker-preserved g c =
    let r = run_of (rooms_view tells c.args.rooms.now) (sessions_of (g.O.Operator.rest c.args.op.now) c.args.sessions.now) c.args.trace.now.items in
    record {
      workers = omega (arith, c.loop-worker.invariant.workers, c.drain_next.auto.sessions);
      run = c.in_ok-drain_next.ensures.run ∙ ap (λ (x : Run). drain_worker x c.loop-worker.worker) c.loop-worker.invariant.run ∙ sym (drain_next r c.loop-worker.worker);
      told = adds_more c.args.trace.now.items c.loop-worker.trace.items c.drain_next.new.trace.items c.loop-worker.invariant.told c.in_ok-drain_next.ensures.told;
      fit = c.in_ok-drain_next.ensures.fit;
    }

pub returns-clause-run : goal.returns-clause-run
returns-clause-run g c =
    let r = run_of (rooms_view tells c.args.rooms.now) (sessions_of (g.O.Operator.rest c.args.op.now) c.args.sessions.now) c.args.trace.now.items in
    let all : c.loop-worker.worker ≡ c.args.workers = omega (arith, c.loop-worker-test.false, c.loop-worker.auto.worker-end) in
    c.loop-worker.invariant.run ∙ ap (drain r) all
