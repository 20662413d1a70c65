use Rattle.std.proofs.Common.{subst, sym, get_or}
use Rattle.std.proofs.lemmas.Option.{slice_get-get_or}
use Rattle.commit_book.specs.SerialRuns.{operator_of}
use Rattle.rooms.specs.Values.{tells}
use Rattle.rooms.specs.Visits.{view_of as rooms_view}
use Rattle.rooms.proofs.CallerLemmas.{vector_never_risen}
use Rattle.iterate.specs.PlayedTurns.{machine_of, sessions_of, TurnAnswers}
use Rattle.sessions.specs.SessionViews.{view_of}
use Rattle.sessions.specs.Turns.{AreSameRooms}
use Rattle.iterate.proofs.SessionLists.{here, set_sessions, all_set}
use Rattle.iterate.proofs.SoleTurns.{sole_turn, may_turn_on, other_may}
use Rattle.iterate.proofs.sole_turns.take_turn.Goals as goal

pub returns-clause-turned : goal.returns-clause-turned
returns-clause-turned g c =
    let rest = g.O.Operator.rest c.args.op.now in
    let op = operator_of g.O.Operator c.args.op.now in
    let xs = c.args.sessions.now in
    let s = get_or xs c.args.worker c.index-sessions-worker.result in
    let t = c.turn_told.new.session in
    let a = rooms_view tells c.args.rooms.now in
    let b = rooms_view tells c.turn_told.new.rooms in
    let there = slice_get-get_or xs c.args.worker c.index-sessions-worker.result c.requires.worker in
    subst (λ sessions. TurnAnswers op (machine_of a (sessions_of rest xs)) (machine_of b sessions) c.args.worker c.turn_told.result) (sym (set_sessions rest xs c.args.worker t c.requires.worker))
    (sole_turn op a b (view_of rest s) (view_of rest t) c.args.worker c.turn_told.ensures.told_before c.turn_told.ensures.told_after (c.requires.fit c.args.worker s there)
    (vector_never_risen tells c.args.rooms.now c.turn_told.new.rooms) (sessions_of rest xs) (here rest xs c.args.worker s there) c.turn_told.result c.turn_told.ensures.turned c.turn_told.ensures.call)

pub returns-clause-fit : goal.returns-clause-fit
returns-clause-fit g c =
    let rest = g.O.Operator.rest c.args.op.now in
    let op = operator_of g.O.Operator c.args.op.now in
    let xs = c.args.sessions.now in
    let s = get_or xs c.args.worker c.index-sessions-worker.result in
    let t = c.turn_told.new.session in
    let a = rooms_view tells c.args.rooms.now in
    let b = rooms_view tells c.turn_told.new.rooms in
    let there = slice_get-get_or xs c.args.worker c.index-sessions-worker.result c.requires.worker in
    let may = c.requires.fit c.args.worker s there in
    let mine = may_turn_on op a b (view_of rest s) (view_of rest t) c.args.worker c.turn_told.ensures.told_before c.turn_told.ensures.told_after may
    (vector_never_risen tells c.args.rooms.now c.turn_told.new.rooms) c.turn_told.result c.turn_told.ensures.turned c.turn_told.ensures.fit in
    let same = subst (λ worker. AreSameRooms a b worker) may.worker_is c.turn_told.ensures.turned.same_rooms in
    all_set rest op b xs c.args.worker t c.requires.worker mine (λ other u ne e. other_may op a b c.args.worker other (view_of rest t) (view_of rest u) same mine ne (c.requires.fit other u e))
