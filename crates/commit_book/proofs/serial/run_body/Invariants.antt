use Rattle.std.proofs.Common.{◌≡◌, length, map}
use Rattle.gx_base.specs.Replays.{in_rooms}
use Rattle.commit_book.proofs.runs.BodySteps.{IsUnderWay}
use Rattle.commit_book.proofs.serial.run_body.Given as goal

-- the body is done as far as its acts so far
abbrev pub invariant-loop-room : goal.invariant-loop-room
invariant-loop-room g l = record {
  rooms : g.O.Operator.room_count l.op ≡ length l.rooms;
  under_way : IsUnderWay (g.O.Operator.plan l.op l.fn.item) (g.O.Operator.rest l.op l.state l.last) (in_rooms (map g.T.SeqType.state l.fn.rooms)) (in_rooms (map g.T.SeqType.state l.rooms)) l.outcome.steps.items l.outcome.pushes.items;
}

abbrev pub decreases-loop-room : goal.decreases-loop-room
decreases-loop-room g l = g.O.Operator.to_go l.op l.state
