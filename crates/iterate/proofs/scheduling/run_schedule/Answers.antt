use Rattle.std.proofs.Common.{◌≡◌, ◌<◌, ◌+◌, [], ◌∷◌, refl, sym, ◌∙◌, ap, subst, length, take, drop, get_or, arith, add-one}
use Rattle.std.proofs.Math.Seq.{drop-cons}
use Rattle.std.proofs.lemmas.List.{drop_all, length_push}
use Rattle.commit_book.specs.SerialRuns.{operator_of}
use Rattle.rooms.specs.Values.{tells}
use Rattle.rooms.specs.Visits.{view_of as rooms_view}
use Rattle.speculation.specs.ScheduledRuns.{Run, begun, scheduled}
use Rattle.sessions.specs.EventViews.{turns_of}
use Rattle.iterate.specs.PlayedTurns.{machine_of, sessions_of, run_of}
use Rattle.iterate.specs.Plays.{ConflictsTellRight}
use Rattle.iterate.proofs.SessionLists.{all_free}
use Rattle.iterate.proofs.Schedules.{LeadsOn, leads_more, leads_to_stop, ends_there, ends_early, below_at}
use Rattle.iterate.proofs.ToldTurns.{none_told, reached_first, reached_more, told_more}
use Rattle.iterate.proofs.scheduling.run_schedule.Goals as goal

pub nothing_is_ready-requires : goal.nothing_is_ready-requires
nothing_is_ready-requires g c =
    all_free (g.O.Operator.rest c.args.op.now) (operator_of g.O.Operator c.args.op.now) (rooms_view tells c.loop-worker.rooms) c.loop-worker.sessions (omega (arith, c.requires.some, c.loop-worker.invariant.count)) c.loop-worker.invariant.fit

pub loop-worker-init : goal.loop-worker-init
loop-worker-init g c =
    let rest = g.O.Operator.rest c.args.op.now in
    let op = operator_of g.O.Operator c.args.op.now in
    let schedule = c.args.schedule.now in
    let m = machine_of (rooms_view tells c.args.rooms.now) (sessions_of rest c.args.sessions.now) in
    let r = run_of (rooms_view tells c.args.rooms.now) (sessions_of rest c.args.sessions.now) c.args.trace.now.items in
    record {
      count = refl;
      leads = record { run = refl; limit = refl; asks = λ k. k };
      reached = reached_first op r schedule;
      turns = ap length c.requires.trace;
      told = subst (λ trace. ConflictsTellRight op m schedule trace) (sym c.requires.trace) (none_told op m schedule);
      fit = c.requires.fit;
    }

pub returns-then-nothing_is_ready : goal.returns-then-nothing_is_ready
returns-then-nothing_is_ready g c =
    let rest = g.O.Operator.rest c.args.op.now in
    let op = operator_of g.O.Operator c.args.op.now in
    let r = run_of (rooms_view tells c.args.rooms.now) (sessions_of rest c.args.sessions.now) c.args.trace.now.items in
    let now = run_of (rooms_view tells c.loop-worker.rooms) (sessions_of rest c.loop-worker.sessions) c.loop-worker.trace.items in
    let end = ends_early op r now c.args.schedule.now (drop c.loop-worker.worker-index c.args.schedule.now) c.loop-worker.invariant.leads (sym c.nothing_is_ready.ensures ∙ c.if-nothing_is_ready.true) in
    record { run = end.run; unlimited = end.unlimited; asks = end.asks; told = c.loop-worker.invariant.told; limited = λ limit e. absurd (cc); fit = c.loop-worker.invariant.fit }

pub traced_turn-requires-clause-worker : goal.traced_turn-requires-clause-worker
traced_turn-requires-clause-worker g c = subst (λ n. get_or c.args.schedule.now c.loop-worker.worker-index 0 < n) (sym c.loop-worker.invariant.count) (below_at c.args.schedule.now (length c.args.sessions.now) c.loop-worker.worker-index 0 c.requires.workers c.loop-worker-test.true)

pub returns-in_err-traced_turn-clause-limited : goal.returns-in_err-traced_turn-clause-limited
returns-in_err-traced_turn-clause-limited g c = λ limit e.
    let rest = g.O.Operator.rest c.args.op.now in
    let op = operator_of g.O.Operator c.args.op.now in
    let schedule = c.args.schedule.now in
    let place = c.loop-worker.worker-index in
    let r = run_of (rooms_view tells c.args.rooms.now) (sessions_of rest c.args.sessions.now) c.args.trace.now.items in
    let now = run_of (rooms_view tells c.loop-worker.rooms) (sessions_of rest c.loop-worker.sessions) c.loop-worker.trace.items in
    let worker = get_or schedule place 0 in
    let leads : LeadsOn op r schedule now (worker ∷ drop (place + 1) schedule) = subst (λ rest. LeadsOn op r schedule now rest) (drop-cons schedule place 0 c.loop-worker-test.true ∙ ap (λ k. worker ∷ drop k schedule) (sym (add-one place))) c.loop-worker.invariant.leads in
    let told = rw e at c.from_residual.ensures.1 in
    leads_to_stop op r now schedule (drop (place + 1) schedule) worker limit _ leads (sym c.nothing_is_ready.ensures ∙ c.if-nothing_is_ready.false) c.in_err-traced_turn.ensures.stopped (sym told)

pub loop-worker-preserved : goal.loop-worker-preserved
loop-worker-preserved g c =
    let rest = g.O.Operator.rest c.args.op.now in
    let op = operator_of g.O.Operator c.args.op.now in
    let schedule = c.args.schedule.now in
    let place = c.loop-worker.worker-index in
    let r = run_of (rooms_view tells c.args.rooms.now) (sessions_of rest c.args.sessions.now) c.args.trace.now.items in
    let m = machine_of (rooms_view tells c.args.rooms.now) (sessions_of rest c.args.sessions.now) in
    let start : r ≡ begun m = λ i. record { machine = m; trace = turns_of (c.requires.trace i) } in
    let now = run_of (rooms_view tells c.loop-worker.rooms) (sessions_of rest c.loop-worker.sessions) c.loop-worker.trace.items in
    let after = run_of (rooms_view tells c.traced_turn.new.rooms) (sessions_of rest c.traced_turn.new.sessions) c.traced_turn.new.trace.items in
    let worker = get_or schedule place 0 in
    let leads : LeadsOn op r schedule now (worker ∷ drop (place + 1) schedule) = subst (λ rest. LeadsOn op r schedule now rest) (drop-cons schedule place 0 c.loop-worker-test.true ∙ ap (λ k. worker ∷ drop k schedule) (sym (add-one place))) c.loop-worker.invariant.leads in
    record {
      count = c.traced_turn.auto.sessions ∙ c.loop-worker.invariant.count;
      reached = reached_more op r now after schedule place 0 c.loop-worker-test.true (sym c.nothing_is_ready.ensures ∙ c.if-nothing_is_ready.false) c.loop-worker.invariant.reached c.in_ok-traced_turn.ensures.turned;
      turns = ap length c.in_ok-traced_turn.ensures.told.trace_is ∙ length_push c.loop-worker.trace.items c.in_ok-traced_turn.ensures.told.turn ∙ ap (λ n. n + 1) c.loop-worker.invariant.turns;
      told =
          told_more op m schedule now.machine place c.loop-worker.trace.items c.traced_turn.new.trace.items c.loop-worker.invariant.turns
          (ap (λ (x : Run). x.machine) (c.loop-worker.invariant.reached ∙ ap (λ (x : Run). scheduled op x (take place schedule)) start)) c.in_ok-traced_turn.ensures.told c.loop-worker.invariant.told;
      leads = leads_more op r now after schedule (drop (place + 1) schedule) worker leads (sym c.nothing_is_ready.ensures ∙ c.if-nothing_is_ready.false) c.in_ok-traced_turn.ensures.turned;
      fit = c.traced_turn.ensures.fit;
    }

pub returns : goal.returns
returns g c =
    let rest = g.O.Operator.rest c.args.op.now in
    let op = operator_of g.O.Operator c.args.op.now in
    let schedule = c.args.schedule.now in
    let r = run_of (rooms_view tells c.args.rooms.now) (sessions_of rest c.args.sessions.now) c.args.trace.now.items in
    let now = run_of (rooms_view tells c.loop-worker.rooms) (sessions_of rest c.loop-worker.sessions) c.loop-worker.trace.items in
    let leads : LeadsOn op r schedule now [] = subst (λ rest. LeadsOn op r schedule now rest) (drop_all c.loop-worker.worker-index schedule c.loop-worker-test.false) c.loop-worker.invariant.leads in
    let end = ends_there op r now schedule leads in
    record { run = end.run; unlimited = end.unlimited; asks = end.asks; told = c.loop-worker.invariant.told; limited = λ limit e. absurd (cc); fit = c.loop-worker.invariant.fit }
