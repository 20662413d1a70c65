use Rattle.std.proofs.Common.{◌≡◌, [], length, map, ◌-◌, ◌≤◌}
use Rattle.gx_base.specs.Replays.{in_rooms}
use Rattle.gx_base.specs.Worklists.{with_items}
use Rattle.commit_book.specs.SerialRuns.{operator_of, most_commits}
use Rattle.commit_book.proofs.runs.SerialSteps.{IsRunSoFar}
use Rattle.commit_book.proofs.serial.run_serially.Given as goal

abbrev pub invariant-loop-item : goal.invariant-loop-item
invariant-loop-item g l = record {
  rooms : g.O.Operator.room_count l.op ≡ length l.rooms;
  within : length l.commits.items ≤ most_commits;
  so_far : IsRunSoFar (operator_of g.O.Operator l.op) (in_rooms (map g.T.SeqType.state l.fn.rooms)) (with_items [] l.ready) l.commits.items l.worklist (in_rooms (map g.T.SeqType.state l.rooms));
}

abbrev pub decreases-loop-item : goal.decreases-loop-item
decreases-loop-item g l = most_commits - length l.commits.items
