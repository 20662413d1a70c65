use Rattle.std.proofs.Common.{List, [], ◌∷◌, ◌++◌, Some, sym, ◌∙◌, refl, subst, Result, Ok, Err, IfOk, IfErr}
use Rattle.gx_base.specs.declared.acts.Step.{Step}
use Rattle.gx_base.specs.declared.calls.Reply.{Reply}
use Rattle.gate_core.specs.CallAnswers.{GateRefusalFits, IsAdmitted}
use Rattle.gate_core.specs.declared.refusals.GateRefuse.{GateRefuse}
use Rattle.commit_book.specs.SerialRuns.{operator_of}
use Rattle.sessions.specs.Answers.{answered}
use Rattle.sessions.specs.Places.{gate_of}
use Rattle.sessions.specs.SessionViews.{core_of, view_of}
use Rattle.sessions.specs.Turns.{TakesTurn}
use Rattle.sessions.specs.Visits.{GaveUp}
use Rattle.sessions.specs.declared.events.Event.TheVariants as events
use Rattle.sessions.specs.declared.events.Stop.TheVariants as stops
use Rattle.sessions.specs.declared.session.Phase.TheVariants as code
use Rattle.sessions.proofs.ShownTurns.{shown}
use Rattle.sessions.proofs.GateVisits.{value_mark, value_visited}
use Rattle.sessions.proofs.CallTurns.{asking_as, noted_as, noted, call_lost, call_turn, conflict_turn, stop_turn, stop_in_gate}
use Rattle.sessions.proofs.session.Session.call.Goals as goal

pub returns-then-is_err-clause-turn : goal.returns-then-is_err-clause-turn
returns-then-is_err-clause-turn g c =
    let ask = asking_as c.args.room c.args.call c.args.self.now.phase c.requires.asking in
    let gave_up : GaveUp (g.R.Rooms.view c.args.rooms.now) (g.R.Rooms.view c.stop.new.rooms) (record (core_of c.args.self.now) { pushes = [] }) (core_of c.stop.new.self) c.stop.new.self.phase =
    subst (λ (log : List Step). GaveUp (g.R.Rooms.view c.args.rooms.now) (g.R.Rooms.view c.stop.new.rooms) (record (core_of c.args.self.now) { log = log; pushes = [] }) (core_of c.stop.new.self) c.stop.new.self.phase) c.reserve.ensures.items c.stop.ensures.gave_up in
    subst (λ r. TakesTurn (operator_of g.O.Operator c.args._op.now) (g.R.Rooms.view c.args.rooms.now) (g.R.Rooms.view c.stop.new.rooms) (view_of (g.O.Operator.rest c.args._op.now) c.args.self.now) (view_of (g.O.Operator.rest c.args._op.now) c.stop.new.self) (answered r c.args.told.now)) (sym c.stop.ensures.stop)
    (shown (operator_of g.O.Operator c.args._op.now) (g.R.Rooms.view c.args.rooms.now) (g.R.Rooms.view c.stop.new.rooms) (g.O.Operator.rest c.args._op.now) (core_of c.args.self.now) (core_of c.stop.new.self) (core_of c.stop.new.self) c.args.self.now.phase (code.Asking ask.0 c.args.room c.args.call) c.stop.new.self.phase c.stop.new.self.phase (Err stops.NoMemory) ask.1 refl refl
    (λ fit. stop_turn (operator_of g.O.Operator c.args._op.now) (g.R.Rooms.view c.args.rooms.now) (g.R.Rooms.view c.stop.new.rooms) (g.O.Operator.rest c.args._op.now) (core_of c.args.self.now) ask.0 c.args.room c.args.call (core_of c.stop.new.self) c.stop.new.self.phase fit gave_up)
    c.requires.fit)

pub returns-in_default-clause-turn : goal.returns-in_default-clause-turn
returns-in_default-clause-turn g c =
    let ask = asking_as c.args.room c.args.call c.args.self.now.phase c.requires.asking in
    shown (operator_of g.O.Operator c.args._op.now) (g.R.Rooms.view c.args.rooms.now) (g.R.Rooms.view c.enter_value.new.rooms) (g.O.Operator.rest c.args._op.now) (core_of c.args.self.now) (record (core_of c.args.self.now) { log = c.reserve.new.self.items }) (core_of c.args.self.now) c.args.self.now.phase (code.Asking ask.0 c.args.room c.args.call) c.args.self.now.phase (code.Asking ask.0 c.args.room c.args.call) (Ok events.Busy) ask.1 (λ i. record (core_of c.args.self.now) { log = c.reserve.ensures.items i }) ask.1
    (λ fit. call_lost (operator_of g.O.Operator c.args._op.now) (g.R.Rooms.view c.args.rooms.now) (g.R.Rooms.view c.enter_value.new.rooms) (g.O.Operator.rest c.args._op.now) (core_of c.args.self.now) ask.0 c.args.room c.args.call fit c.in_default.ensures.none)
    c.requires.fit

pub returns-in-Ok-clause-turn : goal.returns-in-Ok-clause-turn
returns-in-Ok-clause-turn g c =
    let ask = asking_as c.args.room c.args.call c.args.self.now.phase c.requires.asking in
    let ok : IsAdmitted (gate_of c.in-Some.value) (gate_of c.call_in-answer.new.value) c.args.self.now.worker c.args.self.now.iter c.args.self.now.item c.args.call c.in-Ok.reply =
    subst (λ (r : Result Reply GateRefuse). IfOk r (λ reply. IsAdmitted (gate_of c.in-Some.value) (gate_of c.call_in-answer.new.value) c.args.self.now.worker c.args.self.now.iter c.args.self.now.item c.args.call reply)) c.in-Ok.is c.call_in-answer.ensures.ok in
    shown (operator_of g.O.Operator c.args._op.now) (g.R.Rooms.view c.args.rooms.now) (g.R.Rooms.view c.leave_value.new.rooms) (g.O.Operator.rest c.args._op.now) (core_of c.args.self.now) (core_of c.note.new.self) (noted (core_of c.args.self.now) c.args.room c.args.call c.in-Ok.reply) c.args.self.now.phase (code.Asking ask.0 c.args.room c.args.call) c.note.new.self.phase (code.Running ask.0 (Some c.in-Ok.reply))
    (Ok (events.Call c.args.room c.args.call c.in-Ok.reply)) ask.1
    (c.note.ensures.core ∙ (λ i. record (core_of c.args.self.now) { log = c.reserve.ensures.items i ++ record { room = c.args.room; call = c.args.call; reply = c.in-Ok.reply } ∷ [] }))
    (noted_as c.in-Ok.reply ask.0 c.args.room c.args.call c.args.self.now.phase c.note.new.self.phase ask.1 c.note.ensures.phase)
    (λ fit. call_turn (operator_of g.O.Operator c.args._op.now) (g.R.Rooms.view c.args.rooms.now) (g.R.Rooms.view c.leave_value.new.rooms) (g.O.Operator.rest c.args._op.now) (core_of c.args.self.now) ask.0 c.args.room c.args.call fit (gate_of c.in-Some.value) (gate_of c.call_in-answer.new.value) c.in-Ok.reply
    (value_visited (g.R.Rooms.view c.args.rooms.now) (g.R.Rooms.view c.enter_value.new.rooms) (g.R.Rooms.view c.leave_value.new.rooms) c.args.room c.in-Some.value c.call_in-answer.new.value (gate_of c.call_in-answer.new.value) c.in-Some.ensures.is_gate c.call_in-answer.ensures.gate c.in-Some.ensures.gate c.in-Some.ensures.some c.leave_value.ensures.view refl) ok.free ok.replied ok.admitted)
    c.requires.fit

pub returns-in-Conflict-clause-turn : goal.returns-in-Conflict-clause-turn
returns-in-Conflict-clause-turn g c =
    let ask = asking_as c.args.room c.args.call c.args.self.now.phase c.requires.asking in
    let refused = subst (λ (r : GateRefuse). GateRefusalFits (gate_of c.in-Some.value) (gate_of c.call_in-answer.new.value) c.args.self.now.worker c.args.self.now.iter c.args.self.now.item c.args.call r) c.in-Conflict.is
    (subst (λ (r : Result Reply GateRefuse). IfErr r (λ refuse. GateRefusalFits (gate_of c.in-Some.value) (gate_of c.call_in-answer.new.value) c.args.self.now.worker c.args.self.now.iter c.args.self.now.item c.args.call refuse)) c.in-Err.is c.call_in-answer.ensures.err) in
    let gave_up : GaveUp (g.R.Rooms.view c.leave_value.new.rooms) (g.R.Rooms.view c.give_up.new.rooms) (core_of c.args.self.now) (core_of c.give_up.new.self) c.give_up.new.self.phase =
    subst (λ (log : List Step). GaveUp (g.R.Rooms.view c.leave_value.new.rooms) (g.R.Rooms.view c.give_up.new.rooms) (record (core_of c.args.self.now) { log = log }) (core_of c.give_up.new.self) c.give_up.new.self.phase) c.reserve.ensures.items c.give_up.ensures.gave_up in
    shown (operator_of g.O.Operator c.args._op.now) (g.R.Rooms.view c.args.rooms.now) (g.R.Rooms.view c.give_up.new.rooms) (g.O.Operator.rest c.args._op.now) (core_of c.args.self.now) (core_of c.give_up.new.self) (core_of c.give_up.new.self) c.args.self.now.phase (code.Asking ask.0 c.args.room c.args.call) c.give_up.new.self.phase c.give_up.new.self.phase
    (Ok (events.Conflict c.args.room c.in-Conflict.found)) ask.1 refl refl
    (λ fit. conflict_turn (operator_of g.O.Operator c.args._op.now) (g.R.Rooms.view c.args.rooms.now) (g.R.Rooms.view c.give_up.new.rooms) (g.O.Operator.rest c.args._op.now) (core_of c.args.self.now) ask.0 c.args.room c.args.call (g.R.Rooms.view c.leave_value.new.rooms) (core_of c.give_up.new.self) c.give_up.new.self.phase c.requires.unordered fit (gate_of c.in-Some.value) c.in-Conflict.found refused.0.0
    (value_visited (g.R.Rooms.view c.args.rooms.now) (g.R.Rooms.view c.enter_value.new.rooms) (g.R.Rooms.view c.leave_value.new.rooms) c.args.room c.in-Some.value c.call_in-answer.new.value (gate_of c.in-Some.value) c.in-Some.ensures.is_gate c.call_in-answer.ensures.gate c.in-Some.ensures.gate c.in-Some.ensures.some c.leave_value.ensures.view refused.1) refused.0.1 gave_up)
    c.requires.fit

pub returns-in-NoMemory-clause-turn : goal.returns-in-NoMemory-clause-turn
returns-in-NoMemory-clause-turn g c =
    let refused = subst (λ (r : GateRefuse). GateRefusalFits (gate_of c.in-Some.value) (gate_of c.call_in-answer.new.value) c.args.self.now.worker c.args.self.now.iter c.args.self.now.item c.args.call r) c.in-NoMemory.is
    (subst (λ (r : Result Reply GateRefuse). IfErr r (λ refuse. GateRefusalFits (gate_of c.in-Some.value) (gate_of c.call_in-answer.new.value) c.args.self.now.worker c.args.self.now.iter c.args.self.now.item c.args.call refuse)) c.in-Err.is c.call_in-answer.ensures.err) in
    let ask = asking_as c.args.room c.args.call c.args.self.now.phase c.requires.asking in
    let gave_up : GaveUp (g.R.Rooms.view c.leave_value.new.rooms) (g.R.Rooms.view c.stop-in-NoMemory.new.rooms) (record (core_of c.args.self.now) { pushes = [] }) (core_of c.stop-in-NoMemory.new.self) c.stop-in-NoMemory.new.self.phase =
    subst (λ (log : List Step). GaveUp (g.R.Rooms.view c.leave_value.new.rooms) (g.R.Rooms.view c.stop-in-NoMemory.new.rooms) (record (core_of c.args.self.now) { log = log; pushes = [] }) (core_of c.stop-in-NoMemory.new.self) c.stop-in-NoMemory.new.self.phase) c.reserve.ensures.items c.stop-in-NoMemory.ensures.gave_up in
    subst (λ r. TakesTurn (operator_of g.O.Operator c.args._op.now) (g.R.Rooms.view c.args.rooms.now) (g.R.Rooms.view c.stop-in-NoMemory.new.rooms) (view_of (g.O.Operator.rest c.args._op.now) c.args.self.now) (view_of (g.O.Operator.rest c.args._op.now) c.stop-in-NoMemory.new.self) (answered r c.args.told.now)) (sym c.stop-in-NoMemory.ensures.stop)
    (shown (operator_of g.O.Operator c.args._op.now) (g.R.Rooms.view c.args.rooms.now) (g.R.Rooms.view c.stop-in-NoMemory.new.rooms) (g.O.Operator.rest c.args._op.now) (core_of c.args.self.now) (core_of c.stop-in-NoMemory.new.self) (core_of c.stop-in-NoMemory.new.self) c.args.self.now.phase (code.Asking ask.0 c.args.room c.args.call) c.stop-in-NoMemory.new.self.phase c.stop-in-NoMemory.new.self.phase (Err stops.NoMemory) ask.1 refl refl
    (λ fit. stop_in_gate (operator_of g.O.Operator c.args._op.now) (g.R.Rooms.view c.args.rooms.now) (g.R.Rooms.view c.stop-in-NoMemory.new.rooms) (g.O.Operator.rest c.args._op.now) (core_of c.args.self.now) ask.0 c.args.room c.args.call (g.R.Rooms.view c.leave_value.new.rooms) (core_of c.stop-in-NoMemory.new.self) c.stop-in-NoMemory.new.self.phase fit (gate_of c.in-Some.value)
    (value_visited (g.R.Rooms.view c.args.rooms.now) (g.R.Rooms.view c.enter_value.new.rooms) (g.R.Rooms.view c.leave_value.new.rooms) c.args.room c.in-Some.value c.call_in-answer.new.value (gate_of c.in-Some.value) c.in-Some.ensures.is_gate c.call_in-answer.ensures.gate c.in-Some.ensures.gate c.in-Some.ensures.some c.leave_value.ensures.view refused) gave_up)
    c.requires.fit)

pub leave_value-requires-clause-mark : goal.leave_value-requires-clause-mark
leave_value-requires-clause-mark g c = value_mark (g.R.Rooms.view c.args.rooms.now) (g.R.Rooms.view c.enter_value.new.rooms) c.args.room c.in-Some.value (gate_of c.call_in-answer.new.value).mark c.in-Some.ensures.is_gate c.in-Some.ensures.some c.call_in-answer.ensures.mark
