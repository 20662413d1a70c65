use Rattle.std.proofs.Common.{◌≡◌, ℕ, sym, ◌∙◌, ap, subst, length, arith}
use Rattle.std.proofs.lemmas.Result.{on_ok_weaker}
use Rattle.speculation.specs.ScheduledRuns.{Run, drain_step}
use Rattle.speculation.specs.Sessions.{Session}
use Rattle.rooms.proofs.CallerLemmas.{put_same}
use Rattle.rooms.specs.Values.{tells}
use Rattle.rooms.specs.Visits.{view_of as rooms_view}
use Rattle.iterate.specs.PlayedTurns.{sessions_of, run_of}
use Rattle.sessions.specs.SessionViews.{left_off, with_left_off}
use Rattle.iterate.proofs.Drains.{run_left, left_twice, next_step, last_step_left}
use Rattle.iterate.proofs.ToldTurns.{adds_nothing, adds_more}
use Rattle.iterate.proofs.draining.drain_worker.Goals as goal

pub loop-done-init : goal.loop-done-init
loop-done-init g c =
    let rest = g.O.Operator.rest c.args.op.now in
    let xs = c.args.sessions.now in
    let ys = c.leave_off-count.new.sessions in
    let same : sessions_of rest ys c.args.worker ≡ with_left_off (sessions_of rest xs c.args.worker) = ap (λ (f : ℕ → Session). f c.args.worker) c.leave_off-count.ensures.sessions ∙ put_same (sessions_of rest xs) c.args.worker (with_left_off (sessions_of rest xs c.args.worker)) in
    record {
      worker = omega (arith, c.leave_off-count.auto.sessions, c.requires.worker);
      run = ap (λ (sessions : ℕ → Session). run_of (rooms_view tells c.args.rooms.now) sessions c.args.trace.now.items) c.leave_off-count.ensures.sessions;
      left = subst (λ (s : Session). left_off s.phase ≡ s.phase) (sym same) (left_twice (sessions_of rest xs c.args.worker).phase);
      told = adds_nothing c.args.trace.now.items;
      fit = c.leave_off-count.ensures.fit;
    }

pub loop-done-preserved : goal.loop-done-preserved
loop-done-preserved g c =
    let rest = g.O.Operator.rest c.args.op.now in
    let r = run_of (rooms_view tells c.args.rooms.now) (sessions_of rest c.args.sessions.now) c.args.trace.now.items in
    record {
      worker = omega (arith, c.drain_step.auto.sessions, c.loop-done.invariant.worker);
      run = c.in_ok-drain_step.ensures.run ∙ ap (λ (x : Run). drain_step x c.args.worker) c.loop-done.invariant.run ∙ sym (next_step c.loop-done._done (run_left r c.args.worker) c.args.worker);
      left = c.in_ok-drain_step.ensures.left_off;
      told = adds_more c.args.trace.now.items c.loop-done.trace.items c.drain_step.new.trace.items c.loop-done.invariant.told c.in_ok-drain_step.ensures.told;
      fit = c.in_ok-drain_step.ensures.fit;
    }

pub returns-clause-run : goal.returns-clause-run
returns-clause-run g c =
    let rest = g.O.Operator.rest c.args.op.now in
    let r = run_of (rooms_view tells c.args.rooms.now) (sessions_of rest c.args.sessions.now) c.args.trace.now.items in
    let now = run_of (rooms_view tells c.loop-done.rooms) (sessions_of rest c.loop-done.sessions) c.loop-done.trace.items in
    let last = run_of (rooms_view tells c.drain_step-2.new.rooms) (sessions_of rest c.drain_step-2.new.sessions) c.drain_step-2.new.trace.items in
    let count : c.loop-done._done ≡ length (sessions_of rest c.args.sessions.now c.args.worker).outcome.steps = omega (arith, c.loop-done-test.false, c.loop-done.auto._done-end, c.leave_off-count.ensures.count) in
    on_ok_weaker c.drain_step-2.result (last_step_left c.loop-done._done r now last c.args.worker count c.loop-done.invariant.run) c.drain_step-2.ensures.run

pub returns-clause-told : goal.returns-clause-told
returns-clause-told g c = on_ok_weaker c.drain_step-2.result (adds_more c.args.trace.now.items c.loop-done.trace.items c.drain_step-2.new.trace.items c.loop-done.invariant.told) c.drain_step-2.ensures.told
