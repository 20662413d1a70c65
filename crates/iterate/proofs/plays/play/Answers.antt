use Rattle.std.proofs.Common.{◌≡◌, sym, ◌∙◌, ap, subst, Err}
use Rattle.std.specs.List.{slice_get}
use Rattle.commit_book.specs.SerialRuns.{operator_of}
use Rattle.speculation.specs.Machines.{Machine}
use Rattle.rooms.specs.Values.{tells}
use Rattle.rooms.specs.Visits.{view_of as rooms_view}
use Rattle.rooms.proofs.CallerLemmas.{vector_acts_for}
use Rattle.sessions.specs.EventViews.{turns_of}
use Rattle.iterate.specs.PlayedTurns.{sessions_of, run_of, AreBegun, IsPlayedRun}
use Rattle.iterate.specs.Plays.{begun_machine, stop_of, ConflictsTellRight, PassesFirst}
use Rattle.sessions.specs.declared.events.Stop.TheVariants as stops
use Rattle.iterate.proofs.Beginnings.{begins, begun_is, all_begin, is_played}
use Rattle.iterate.proofs.WholeRuns.{none_passed, found_stop, as_results}
use Rattle.iterate.proofs.plays.play.Goals as goal

pub play_on-requires-clause-fit : goal.play_on-requires-clause-fit
play_on-requires-clause-fit g c =
    let rest = g.O.Operator.rest c.args.op.now in
    let op = operator_of g.O.Operator c.args.op.now in
    let begun = subst (λ xs. AreBegun rest xs) (sym c.deref_mut.ensures.value) c.in_ok-sessions.ensures.begun in
    all_begin rest op (rooms_view tells c.args.rooms) c.tell.ensures c.requires.new c.deref_mut.result.now begun (vector_acts_for tells c.args.rooms) c.requires.free

pub returns-in-Ok-clause-played : goal.returns-in-Ok-clause-played
returns-in-Ok-clause-played g c =
    let rest = g.O.Operator.rest c.args.op.now in
    let op = operator_of g.O.Operator c.args.op.now in
    let a = rooms_view tells c.args.rooms in
    let b = rooms_view tells c.play_on.new.rooms in
    let begun = subst (λ xs. AreBegun rest xs) (sym c.deref_mut.ensures.value) c.in_ok-sessions.ensures.begun in
    let first = begun_is rest op a c.tell.ensures c.requires.new c.deref_mut.result.now begun in
    let m = begun_machine op.rooms a.told in
    let new = begins op a.told c.requires.new (λ room value e. c.know_values.ensures room value (c.values.ensures room ∙ e)) in
    let run = subst (λ (x : Machine). IsPlayedRun op x c.args.workers c.args.schedule.now (run_of b (sessions_of rest c.play_on.new.sessions) c.play_on.new.trace.items)) first c.in-Ok.ensures.run in
    is_played op m c.args.workers c.args.schedule.now b c.in-Ok.ensures.told c.in-Ok.ensures.book (sessions_of rest c.play_on.new.sessions) (turns_of c.play_on.new.trace.items) (slice_get c.into_values.result.items) run
    c.into_values.ensures (λ turns asks. c.runs_are_serial.ensures op m c.args.workers c.args.schedule.now turns new c.requires.schedule asks)

pub returns-in-Ok-clause-told : goal.returns-in-Ok-clause-told
returns-in-Ok-clause-told g c =
    let rest = g.O.Operator.rest c.args.op.now in
    let op = operator_of g.O.Operator c.args.op.now in
    let a = rooms_view tells c.args.rooms in
    let begun = subst (λ xs. AreBegun rest xs) (sym c.deref_mut.ensures.value) c.in_ok-sessions.ensures.begun in
    let first = begun_is rest op a c.tell.ensures c.requires.new c.deref_mut.result.now begun in
    subst (λ (x : Machine). ConflictsTellRight op x c.args.schedule.now c.play_on.new.trace.items) first c.in-Ok.ensures.tells_right

pub returns-in-Ok-clause-limited : goal.returns-in-Ok-clause-limited
returns-in-Ok-clause-limited g c = λ limit h.
    let rest = g.O.Operator.rest c.args.op.now in
    let op = operator_of g.O.Operator c.args.op.now in
    let a = rooms_view tells c.args.rooms in
    let b = rooms_view tells c.play_on.new.rooms in
    let begun = subst (λ xs. AreBegun rest xs) (sym c.deref_mut.ensures.value) c.in_ok-sessions.ensures.begun in
    let first = begun_is rest op a c.tell.ensures c.requires.new c.deref_mut.result.now begun in
    let last = run_of b (sessions_of rest c.play_on.new.sessions) c.play_on.new.trace.items in
    let run = subst (λ (x : Machine). IsPlayedRun op x c.args.workers c.args.schedule.now last) first c.in-Ok.ensures.run in
    absurd (none_passed op (begun_machine op.rooms a.told) c.args.workers c.args.schedule.now last run limit h)

pub returns-in-Err-clause-stopped : goal.returns-in-Err-clause-stopped
returns-in-Err-clause-stopped g c = λ limit e.
    let rest = g.O.Operator.rest c.args.op.now in
    let op = operator_of g.O.Operator c.args.op.now in
    let a = rooms_view tells c.args.rooms in
    let begun = subst (λ xs. AreBegun rest xs) (sym c.deref_mut.ensures.value) c.in_ok-sessions.ensures.begun in
    let first = begun_is rest op a c.tell.ensures c.requires.new c.deref_mut.result.now begun in
    let is : c.in-Err.stop ≡ stop_of limit = cc in
    subst (λ (x : Machine). PassesFirst op x c.args.workers c.args.schedule.now limit) first (c.in-Err.ensures.stopped limit (ap Err is))

pub returns-in-Err-clause-limited : goal.returns-in-Err-clause-limited
returns-in-Err-clause-limited g c = λ limit h.
    let rest = g.O.Operator.rest c.args.op.now in
    let op = operator_of g.O.Operator c.args.op.now in
    let a = rooms_view tells c.args.rooms in
    let begun = subst (λ xs. AreBegun rest xs) (sym c.deref_mut.ensures.value) c.in_ok-sessions.ensures.begun in
    let first = begun_is rest op a c.tell.ensures c.requires.new c.deref_mut.result.now begun in
    as_results _ c.in-Err.stop (stop_of limit) stops.NoMemory
    (found_stop op (begun_machine op.rooms a.told) c.args.workers c.args.schedule.now c.in-Err.stop
    (λ l is. subst (λ (x : Machine). PassesFirst op x c.args.workers c.args.schedule.now l) first (c.in-Err.ensures.stopped l (ap Err is))) limit h)
