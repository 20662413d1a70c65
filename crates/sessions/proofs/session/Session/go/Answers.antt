use Rattle.std.proofs.Common.{[], sym, subst}
use Rattle.commit_book.specs.SerialRuns.{operator_of}
use Rattle.sessions.specs.Answers.{answered}
use Rattle.sessions.specs.SessionViews.{Core, core_of, view_of}
use Rattle.sessions.specs.Turns.{TakesTurn}
use Rattle.sessions.specs.Visits.{GaveUp}
use Rattle.sessions.proofs.GoTurns.{go_lift, go_fits, go_stops}
use Rattle.sessions.proofs.session.Session.go.Goals as goal

pub call-requires-clause-fit : goal.call-requires-clause-fit
call-requires-clause-fit g c = go_fits (operator_of g.O.Operator c.args.op.now) (g.R.Rooms.view c.args.rooms.now) (g.R.Rooms.view c.args.rooms.now) (g.O.Operator.rest c.args.op.now) (core_of c.args.self.now) (core_of c.ask_on.new.self) c.args.self.now.phase c.ask_on.new.self.phase c.in-Ok-Some.field-0 c.requires.work c.in-Ok-Some.ensures.gone_on c.in-Ok-Some.ensures.room c.requires.fit

pub finish-requires-clause-fit : goal.finish-requires-clause-fit
finish-requires-clause-fit g c = go_fits (operator_of g.O.Operator c.args.op.now) (g.R.Rooms.view c.args.rooms.now) (g.R.Rooms.view c.args.rooms.now) (g.O.Operator.rest c.args.op.now) (core_of c.args.self.now) (core_of c.ask_on.new.self) c.args.self.now.phase c.ask_on.new.self.phase c.in-Ok-None.field-0 c.requires.work c.in-Ok-None.ensures.gone_on c.in-Ok-None.ensures.room c.requires.fit

pub returns-in-Ok-Some-clause-turn : goal.returns-in-Ok-Some-clause-turn
returns-in-Ok-Some-clause-turn g c = go_lift (operator_of g.O.Operator c.args.op.now) (g.R.Rooms.view c.args.rooms.now) (g.R.Rooms.view c.call.new.rooms) (g.O.Operator.rest c.args.op.now) (core_of c.args.self.now) (core_of c.ask_on.new.self) c.args.self.now.phase c.ask_on.new.self.phase c.in-Ok-Some.field-0 c.requires.work c.in-Ok-Some.ensures.gone_on (view_of (g.O.Operator.rest c.args.op.now) c.call.new.self) (answered c.call.result c.call.new.told) c.call.ensures.turn

pub returns-in-Ok-None-clause-turn : goal.returns-in-Ok-None-clause-turn
returns-in-Ok-None-clause-turn g c = go_lift (operator_of g.O.Operator c.args.op.now) (g.R.Rooms.view c.args.rooms.now) (g.R.Rooms.view c.finish.new.rooms) (g.O.Operator.rest c.args.op.now) (core_of c.args.self.now) (core_of c.ask_on.new.self) c.args.self.now.phase c.ask_on.new.self.phase c.in-Ok-None.field-0 c.requires.work c.in-Ok-None.ensures.gone_on (view_of (g.O.Operator.rest c.args.op.now) c.finish.new.self) (answered c.finish.result c.args.told.now) (c.finish.ensures.turn c.args.told.now)

pub returns-in-Err-clause-turn : goal.returns-in-Err-clause-turn
returns-in-Err-clause-turn g c =
    let gave_up : GaveUp (g.R.Rooms.view c.args.rooms.now) (g.R.Rooms.view c.stop.new.rooms) (record (core_of c.args.self.now) { pushes = [] }) (core_of c.stop.new.self) c.stop.new.self.phase =
    subst (λ (k : Core). GaveUp (g.R.Rooms.view c.args.rooms.now) (g.R.Rooms.view c.stop.new.rooms) (record k { pushes = [] }) (core_of c.stop.new.self) c.stop.new.self.phase) c.in-Err.ensures.err c.stop.ensures.gave_up in
    subst (λ r. TakesTurn (operator_of g.O.Operator c.args.op.now) (g.R.Rooms.view c.args.rooms.now) (g.R.Rooms.view c.stop.new.rooms) (view_of (g.O.Operator.rest c.args.op.now) c.args.self.now) (view_of (g.O.Operator.rest c.args.op.now) c.stop.new.self) (answered r c.args.told.now)) (sym c.stop.ensures.stop)
    (go_stops (operator_of g.O.Operator c.args.op.now) (g.R.Rooms.view c.args.rooms.now) (g.R.Rooms.view c.stop.new.rooms) (g.O.Operator.rest c.args.op.now) (core_of c.args.self.now) (core_of c.stop.new.self) c.stop.new.self.phase c.args.self.now.phase c.requires.work c.requires.fit gave_up)
