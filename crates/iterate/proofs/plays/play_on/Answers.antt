use Rattle.std.proofs.Common.{◌≡◌, Some, None, Err, refl, sym, ◌∙◌, ap, subst, arith}
use Rattle.commit_book.specs.SerialRuns.{operator_of}
use Rattle.speculation.specs.Limits.{limit_of_scheduled}
use Rattle.speculation.specs.Premises.{ScheduledAsk}
use Rattle.speculation.specs.ScheduledRuns.{Run, begun, scheduled}
use Rattle.rooms.specs.Values.{tells}
use Rattle.rooms.specs.Visits.{view_of as rooms_view}
use Rattle.sessions.specs.EventViews.{turns_of}
use Rattle.iterate.specs.PlayedTurns.{machine_of, sessions_of, run_of}
use Rattle.iterate.proofs.SessionLists.{all_free, book_is}
use Rattle.iterate.proofs.ToldTurns.{told_still}
use Rattle.iterate.proofs.WholeRuns.{whole, stops_in_schedule, stops_later}
use Rattle.iterate.proofs.plays.play_on.Goals as goal

pub returns-in_err-run_schedule-clause-stopped : goal.returns-in_err-run_schedule-clause-stopped
returns-in_err-run_schedule-clause-stopped g c = λ limit e.
    let rest = g.O.Operator.rest c.args.op.now in
    let op = operator_of g.O.Operator c.args.op.now in
    let m = machine_of (rooms_view tells c.args.rooms.now) (sessions_of rest c.args.sessions.now) in
    let start : run_of (rooms_view tells c.args.rooms.now) (sessions_of rest c.args.sessions.now) c.args.trace.now.items ≡ begun m = λ i. record { machine = m; trace = turns_of (c.requires.trace i) } in
    let told = rw e at c.from_residual.ensures.1 in
    stops_in_schedule op m c.args.workers c.args.schedule.now limit
    (subst (λ (x : Run). limit_of_scheduled op x c.args.schedule.now ≡ Some limit) start (c.in_err-run_schedule.ensures.limited limit (ap Err (sym told))))

pub returns-in_err-run_alone-clause-stopped : goal.returns-in_err-run_alone-clause-stopped
returns-in_err-run_alone-clause-stopped g c = λ limit e.
    let rest = g.O.Operator.rest c.args.op.now in
    let op = operator_of g.O.Operator c.args.op.now in
    let m = machine_of (rooms_view tells c.args.rooms.now) (sessions_of rest c.args.sessions.now) in
    let start : run_of (rooms_view tells c.args.rooms.now) (sessions_of rest c.args.sessions.now) c.args.trace.now.items ≡ begun m = λ i. record { machine = m; trace = turns_of (c.requires.trace i) } in
    let r = run_of (rooms_view tells c.run_schedule.new.rooms) (sessions_of rest c.run_schedule.new.sessions) c.run_schedule.new.trace.items in
    let s = run_of (rooms_view tells c.drain.new.rooms) (sessions_of rest c.drain.new.sessions) c.drain.new.trace.items in
    let told = rw e at c.from_residual-in_err-run_alone.ensures.1 in
    stops_later op m c.args.workers c.args.schedule.now r s limit (c.in_ok-run_schedule.ensures.run ∙ ap (λ (x : Run). scheduled op x c.args.schedule.now) start)
    (subst (λ (x : Run). limit_of_scheduled op x c.args.schedule.now ≡ None) start c.in_ok-run_schedule.ensures.unlimited) c.in_ok-drain.ensures.run (c.in_err-run_alone.ensures.limited limit (ap Err (sym told)))

pub returns-clause-run : goal.returns-clause-run
returns-clause-run g c =
    let rest = g.O.Operator.rest c.args.op.now in
    let op = operator_of g.O.Operator c.args.op.now in
    let m = machine_of (rooms_view tells c.args.rooms.now) (sessions_of rest c.args.sessions.now) in
    let start : run_of (rooms_view tells c.args.rooms.now) (sessions_of rest c.args.sessions.now) c.args.trace.now.items ≡ begun m = λ i. record { machine = m; trace = turns_of (c.requires.trace i) } in
    let r = run_of (rooms_view tells c.run_schedule.new.rooms) (sessions_of rest c.run_schedule.new.sessions) c.run_schedule.new.trace.items in
    let s = run_of (rooms_view tells c.drain.new.rooms) (sessions_of rest c.drain.new.sessions) c.drain.new.trace.items in
    let last = run_of (rooms_view tells c.run_alone.new.rooms) (sessions_of rest c.run_alone.new.sessions) c.drain.new.trace.items in
    whole op m c.args.workers c.args.schedule.now r s last (c.in_ok-run_schedule.ensures.run ∙ ap (λ (x : Run). scheduled op x c.args.schedule.now) start)
    (subst (λ (x : Run). limit_of_scheduled op x c.args.schedule.now ≡ None) start c.in_ok-run_schedule.ensures.unlimited)
    (subst (λ (x : Run). ScheduledAsk op x c.args.schedule.now) start c.in_ok-run_schedule.ensures.asks) c.in_ok-drain.ensures.run c.in_ok-run_alone.ensures.run refl

pub returns-clause-tells_right : goal.returns-clause-tells_right
returns-clause-tells_right g c =
    let rest = g.O.Operator.rest c.args.op.now in
    told_still (operator_of g.O.Operator c.args.op.now) (machine_of (rooms_view tells c.args.rooms.now) (sessions_of rest c.args.sessions.now)) c.args.schedule.now c.run_schedule.new.trace.items c.drain.new.trace.items c.in_ok-drain.ensures.told c.in_ok-run_schedule.ensures.told

pub returns-clause-free : goal.returns-clause-free
returns-clause-free g c =
    all_free (g.O.Operator.rest c.args.op.now) (operator_of g.O.Operator c.args.op.now) (rooms_view tells c.run_alone.new.rooms) c.run_alone.new.sessions
    (omega (arith, c.requires.some, c.run_schedule.auto.sessions, c.drain.auto.sessions, c.run_alone.auto.sessions)) c.run_alone.ensures.fit

pub returns-clause-book : goal.returns-clause-book
returns-clause-book g c =
    book_is (g.O.Operator.rest c.args.op.now) (operator_of g.O.Operator c.args.op.now) (rooms_view tells c.run_alone.new.rooms) c.run_alone.new.sessions
    (omega (arith, c.requires.some, c.run_schedule.auto.sessions, c.drain.auto.sessions, c.run_alone.auto.sessions)) c.run_alone.ensures.fit
