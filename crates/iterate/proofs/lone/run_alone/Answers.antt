use Rattle.std.proofs.Common.{refl, sym, ◌∙◌, arith}
use Rattle.commit_book.specs.SerialRuns.{operator_of}
use Rattle.rooms.specs.Values.{tells}
use Rattle.rooms.specs.Visits.{view_of as rooms_view}
use Rattle.iterate.specs.PlayedTurns.{machine_of, sessions_of}
use Rattle.sessions.specs.Turns.{event_of}
use Rattle.iterate.proofs.SessionLists.{all_free}
use Rattle.iterate.proofs.LoneRuns.{leads_nowhere, leads_one_more, ends_alone, stops_alone}
use Rattle.iterate.proofs.lone.run_alone.Goals as goal

pub nothing_is_ready-requires : goal.nothing_is_ready-requires
nothing_is_ready-requires g c =
    all_free (g.O.Operator.rest c.args.op.now) (operator_of g.O.Operator c.args.op.now) (rooms_view tells c.loop-turn.rooms) c.loop-turn.sessions (omega (arith, c.requires.some, c.loop-turn.invariant.count)) c.loop-turn.invariant.fit

pub loop-turn-init : goal.loop-turn-init
loop-turn-init g c = record {
  count = refl;
  leads = leads_nowhere (operator_of g.O.Operator c.args.op.now) (machine_of (rooms_view tells c.args.rooms.now) (sessions_of (g.O.Operator.rest c.args.op.now) c.args.sessions.now));
  fit = c.requires.fit;
}

pub loop-turn-preserved : goal.loop-turn-preserved
loop-turn-preserved g c =
    let rest = g.O.Operator.rest c.args.op.now in
    let op = operator_of g.O.Operator c.args.op.now in
    let m = machine_of (rooms_view tells c.args.rooms.now) (sessions_of rest c.args.sessions.now) in
    let now = machine_of (rooms_view tells c.loop-turn.rooms) (sessions_of rest c.loop-turn.sessions) in
    let after = machine_of (rooms_view tells c.lone_turn.new.rooms) (sessions_of rest c.lone_turn.new.sessions) in
    record {
      count = c.lone_turn.auto.sessions ∙ c.loop-turn.invariant.count;
      leads = leads_one_more op m now after (event_of c.in_ok-lone_turn.field-0) c.loop-turn.invariant.leads (sym c.nothing_is_ready.ensures ∙ c.if-nothing_is_ready.false) c.in_ok-lone_turn.ensures.turned.0;
      fit = c.lone_turn.ensures.fit;
    }

pub returns-then-nothing_is_ready-clause-run : goal.returns-then-nothing_is_ready-clause-run
returns-then-nothing_is_ready-clause-run g c =
    let rest = g.O.Operator.rest c.args.op.now in
    let op = operator_of g.O.Operator c.args.op.now in
    let m = machine_of (rooms_view tells c.args.rooms.now) (sessions_of rest c.args.sessions.now) in
    let now = machine_of (rooms_view tells c.loop-turn.rooms) (sessions_of rest c.loop-turn.sessions) in
    ends_alone op m now c.loop-turn.invariant.leads (sym c.nothing_is_ready.ensures ∙ c.if-nothing_is_ready.true)

pub returns-in_err-lone_turn-clause-limited : goal.returns-in_err-lone_turn-clause-limited
returns-in_err-lone_turn-clause-limited g c = λ limit e.
    let rest = g.O.Operator.rest c.args.op.now in
    let op = operator_of g.O.Operator c.args.op.now in
    let m = machine_of (rooms_view tells c.args.rooms.now) (sessions_of rest c.args.sessions.now) in
    let now = machine_of (rooms_view tells c.loop-turn.rooms) (sessions_of rest c.loop-turn.sessions) in
    let told = rw e at c.from_residual.ensures.1 in
    stops_alone op m now limit _ c.loop-turn.invariant.leads (sym c.nothing_is_ready.ensures ∙ c.if-nothing_is_ready.false) c.in_err-lone_turn.ensures.turned (sym told)
