use Rattle.std.proofs.Common.{ℕ, List, [], ◌∷◌, ◌++◌, ◌∙◌, refl, ap, subst}
use Rattle.sessions.specs.RoomLists.{rooms_after_first}
use Rattle.sessions.specs.Visits.{AreReleased}
use Rattle.sessions.proofs.GateVisits.{gate_visited}
use Rattle.sessions.proofs.ReleaseSteps.{none_released, may_at, room_in_range, room_free, mark_may_rise, may_leave, then_released, split_on, split_end}
use Rattle.sessions.proofs.committing.release_all.Goals as goal

pub passing-init : goal.passing-init
passing-init g c = ([], refl, none_released c.args.worker c.args.iter c.args.number (g.R.Rooms.view c.args.rooms.now), refl)

pub enter_gate-requires-clause-in_range : goal.enter_gate-requires-clause-in_range
enter_gate-requires-clause-in_range g c = room_in_range c.args.worker c.args.iter c.args.number (g.R.Rooms.view c.args.rooms.now) (g.R.Rooms.view c.passing.rooms) c.passing.invariant.0 c.in-Some.room (rooms_after_first c.passing.left) c.passing.invariant.2 (may_at (g.R.Rooms.view c.args.rooms.now) c.args.number c.args.left.now c.passing.invariant.0 c.passing.left c.in-Some.room c.passing.invariant.1 c.in-Some.ensures.some c.requires)

pub enter_gate-requires-clause-free : goal.enter_gate-requires-clause-free
enter_gate-requires-clause-free g c = room_free c.args.worker c.args.iter c.args.number (g.R.Rooms.view c.args.rooms.now) (g.R.Rooms.view c.passing.rooms) c.passing.invariant.0 c.in-Some.room (rooms_after_first c.passing.left) c.passing.invariant.2 (may_at (g.R.Rooms.view c.args.rooms.now) c.args.number c.args.left.now c.passing.invariant.0 c.passing.left c.in-Some.room c.passing.invariant.1 c.in-Some.ensures.some c.requires)

pub returns-in-None-enter_gate-clause-cut : goal.returns-in-None-enter_gate-clause-cut
returns-in-None-enter_gate-clause-cut g c = λ e. record {
  front = c.passing.invariant.0;
  room = c.in-Some.room;
  rest = rooms_after_first c.passing.left;
  mid = (g.R.Rooms.view c.passing.rooms);
  rooms_are = c.passing.invariant.1 ∙ ap (λ (xs : List ℕ). c.passing.invariant.0 ++ xs) c.in-Some.ensures.some;
  left_is = c.in-Some.ensures.some;
  front_released = c.passing.invariant.2;
  loss = c.in-None-enter_gate.ensures.none;
}

pub returns-in-None-enter_gate-clause-loan : goal.returns-in-None-enter_gate-clause-loan
returns-in-None-enter_gate-clause-loan g c = c.in-None-enter_gate.ensures.loan ∙ c.passing.invariant.3

pub release-requires-clause-rises : goal.release-requires-clause-rises
release-requires-clause-rises g c = mark_may_rise c.args.worker c.args.iter c.args.number (g.R.Rooms.view c.args.rooms.now) (g.R.Rooms.view c.passing.rooms) c.passing.invariant.0 c.in-Some.room (rooms_after_first c.passing.left) c.passing.invariant.2 (may_at (g.R.Rooms.view c.args.rooms.now) c.args.number c.args.left.now c.passing.invariant.0 c.passing.left c.in-Some.room c.passing.invariant.1 c.in-Some.ensures.some c.requires) c.in-Some-enter_gate.gate c.in-Some-enter_gate.ensures.gate

pub leave_gate-requires : goal.leave_gate-requires
leave_gate-requires g c = may_leave c.args.worker c.args.iter c.args.number (g.R.Rooms.view c.args.rooms.now) (g.R.Rooms.view c.passing.rooms) c.passing.invariant.0 c.in-Some.room (rooms_after_first c.passing.left) c.passing.invariant.2 (may_at (g.R.Rooms.view c.args.rooms.now) c.args.number c.args.left.now c.passing.invariant.0 c.passing.left c.in-Some.room c.passing.invariant.1 c.in-Some.ensures.some c.requires) (g.R.Rooms.view c.enter_gate.new.rooms) c.in-Some-enter_gate.gate c.release.new.self c.in-Some-enter_gate.ensures.some c.release.ensures

pub passing-preserved : goal.passing-preserved
passing-preserved g c = (
  c.passing.invariant.0 ++ c.in-Some.room ∷ [],
  split_on c.args.left.now c.passing.invariant.0 c.passing.left c.in-Some.room c.pass.new.self c.passing.invariant.1 c.in-Some.ensures.some c.pass.ensures,
  then_released c.args.worker c.args.iter c.args.number (g.R.Rooms.view c.args.rooms.now) (g.R.Rooms.view c.passing.rooms) c.passing.invariant.0 c.in-Some.room (rooms_after_first c.passing.left) c.passing.invariant.2 (may_at (g.R.Rooms.view c.args.rooms.now) c.args.number c.args.left.now c.passing.invariant.0 c.passing.left c.in-Some.room c.passing.invariant.1 c.in-Some.ensures.some c.requires) (g.R.Rooms.view c.leave_gate.new.rooms) c.in-Some-enter_gate.gate
      (gate_visited (g.R.Rooms.view c.passing.rooms) (g.R.Rooms.view c.enter_gate.new.rooms) (g.R.Rooms.view c.leave_gate.new.rooms) c.in-Some.room c.in-Some-enter_gate.gate c.release.new.self _ c.in-Some-enter_gate.ensures.gate c.in-Some-enter_gate.ensures.some c.leave_gate.ensures.view c.release.ensures),
  c.leave_gate.ensures.loan ∙ c.in-Some-enter_gate.ensures.loan ∙ c.passing.invariant.3,
)

pub returns-in-None-clause-done : goal.returns-in-None-clause-done
returns-in-None-clause-done g c = λ e. subst (λ (rooms : List ℕ). AreReleased (g.R.Rooms.view c.args.rooms.now) (g.R.Rooms.view c.passing.rooms) c.args.worker c.args.iter c.args.number rooms) (split_end c.args.left.now c.passing.invariant.0 c.passing.left c.passing.invariant.1 c.in-None.ensures.none) c.passing.invariant.2

pub returns-in-None-clause-loan : goal.returns-in-None-clause-loan
returns-in-None-clause-loan g c = c.passing.invariant.3
