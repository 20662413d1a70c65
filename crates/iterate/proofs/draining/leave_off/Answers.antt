use Rattle.std.proofs.Common.{sym, ◌∙◌, ap, get_or, length}
use Rattle.std.proofs.lemmas.Option.{slice_get-get_or}
use Rattle.commit_book.specs.SerialRuns.{operator_of}
use Rattle.gx_base.specs.Replays.{put}
use Rattle.rooms.specs.Values.{tells}
use Rattle.rooms.specs.Visits.{view_of as rooms_view}
use Rattle.speculation.specs.Sessions.{Session}
use Rattle.iterate.specs.PlayedTurns.{sessions_of}
use Rattle.sessions.specs.SessionViews.{view_of, with_left_off}
use Rattle.iterate.proofs.SessionLists.{here, set_sessions, all_set}
use Rattle.iterate.proofs.Drains.{may_leave_off}
use Rattle.iterate.proofs.draining.leave_off.Goals as goal

pub returns-clause-sessions : goal.returns-clause-sessions
returns-clause-sessions g c =
    let rest = g.O.Operator.rest c.args._op.now in
    let xs = c.args.sessions.now in
    let worker = c.args.worker in
    set_sessions rest xs worker c.leave_off.new.self c.requires.worker
    ∙ ap (λ (s : Session). put (sessions_of rest xs) worker s) (ap (λ v. v.at) (c.leave_off.ensures.view c.args._op.now)
    ∙ ap with_left_off (sym (here rest xs worker (get_or xs worker c.index-sessions-worker.result) (slice_get-get_or xs worker c.index-sessions-worker.result c.requires.worker))))

pub returns-clause-count : goal.returns-clause-count
returns-clause-count g c =
    let rest = g.O.Operator.rest c.args._op.now in
    let xs = c.args.sessions.now in
    let worker = c.args.worker in
    c.leave_off.ensures.count c.args._op.now
    ∙ ap (λ (s : Session). length s.outcome.steps) (sym (here rest xs worker (get_or xs worker c.index-sessions-worker.result) (slice_get-get_or xs worker c.index-sessions-worker.result c.requires.worker)))

pub returns-clause-fit : goal.returns-clause-fit
returns-clause-fit g c =
    let rest = g.O.Operator.rest c.args._op.now in
    let op = operator_of g.O.Operator c.args._op.now in
    let xs = c.args.sessions.now in
    let worker = c.args.worker in
    let s = get_or xs worker c.index-sessions-worker.result in
    let rooms = rooms_view tells c.args._rooms.now in
    all_set rest op rooms xs worker c.leave_off.new.self c.requires.worker
    (may_leave_off op rooms worker (view_of rest s) (view_of rest c.leave_off.new.self) (c.leave_off.ensures.view c.args._op.now) (c.requires.fit worker s (slice_get-get_or xs worker c.index-sessions-worker.result c.requires.worker)))
    (λ other u ne e. c.requires.fit other u e)
