use Rattle.std.proofs.Common.{◌≡◌, false, sym, ◌∙◌, ap, get_or}
use Rattle.std.proofs.lemmas.Option.{slice_get-get_or}
use Rattle.std.proofs.lemmas.Result.{on_ok_weaker}
use Rattle.commit_book.specs.SerialRuns.{operator_of}
use Rattle.speculation.specs.Sessions.{Session, is_idle}
use Rattle.rooms.specs.Values.{tells}
use Rattle.rooms.specs.Visits.{view_of as rooms_view}
use Rattle.sessions.specs.EventViews.{turns_of}
use Rattle.iterate.specs.PlayedTurns.{machine_of, sessions_of}
use Rattle.sessions.specs.Turns.{event_of}
use Rattle.iterate.proofs.Drains.{never_stops, drained_turn, left_after}
use Rattle.iterate.proofs.SessionLists.{here}
use Rattle.iterate.proofs.draining.drain_step.Goals as goal

pub returns-in_err-event-clause-err : goal.returns-in_err-event-clause-err
returns-in_err-event-clause-err g c =
    let rest = g.O.Operator.rest c.args.op.now in
    let xs = c.args.sessions.now in
    let s = get_or xs c.args.worker c.index-sessions-worker.result in
    let live : is_idle (sessions_of rest xs c.args.worker).phase ≡ false =
    ap (λ (s : Session). is_idle s.phase) (here rest xs c.args.worker s (slice_get-get_or xs c.args.worker c.index-sessions-worker.result c.requires.worker)) ∙ sym (c.is_idle.ensures c.args.op.now) ∙ c.if-is_idle.false in
    absurd (never_stops (operator_of g.O.Operator c.args.op.now) (machine_of (rooms_view tells c.args.rooms.now) (sessions_of rest xs)) c.args.worker c.requires.left_off live _ c.in_err-event.ensures.turned)

pub returns-clause-run : goal.returns-clause-run
returns-clause-run g c =
    let rest = g.O.Operator.rest c.args.op.now in
    let xs = c.args.sessions.now in
    let s = get_or xs c.args.worker c.index-sessions-worker.result in
    let live : is_idle (sessions_of rest xs c.args.worker).phase ≡ false =
    ap (λ (s : Session). is_idle s.phase) (here rest xs c.args.worker s (slice_get-get_or xs c.args.worker c.index-sessions-worker.result c.requires.worker)) ∙ sym (c.is_idle.ensures c.args.op.now) ∙ c.if-is_idle.false in
    on_ok_weaker c.note_undo.result
    (λ noted. drained_turn (operator_of g.O.Operator c.args.op.now) (machine_of (rooms_view tells c.args.rooms.now) (sessions_of rest xs)) c.args.worker c.requires.left_off live
    (machine_of (rooms_view tells c.take_turn.new.rooms) (sessions_of rest c.take_turn.new.sessions)) (turns_of c.args.trace.now.items) (turns_of c.note_undo.new.trace.items) (event_of c.in_ok-event.event) c.in_ok-event.ensures.turned.0 noted)
    c.note_undo.ensures.ok

pub returns-clause-left_off : goal.returns-clause-left_off
returns-clause-left_off g c =
    let rest = g.O.Operator.rest c.args.op.now in
    let xs = c.args.sessions.now in
    let s = get_or xs c.args.worker c.index-sessions-worker.result in
    let live : is_idle (sessions_of rest xs c.args.worker).phase ≡ false =
    ap (λ (s : Session). is_idle s.phase) (here rest xs c.args.worker s (slice_get-get_or xs c.args.worker c.index-sessions-worker.result c.requires.worker)) ∙ sym (c.is_idle.ensures c.args.op.now) ∙ c.if-is_idle.false in
    on_ok_weaker c.note_undo.result
    (λ noted. left_after (operator_of g.O.Operator c.args.op.now) (machine_of (rooms_view tells c.args.rooms.now) (sessions_of rest xs)) c.args.worker c.requires.left_off live
    (machine_of (rooms_view tells c.take_turn.new.rooms) (sessions_of rest c.take_turn.new.sessions)) (event_of c.in_ok-event.event) c.in_ok-event.ensures.turned.0)
    c.note_undo.ensures.ok
