use Rattle.std.proofs.Common.{◌≡◌, ℕ, ◌<◌, ◌^◌}
use Rattle.schedules.specs.Draws.{state_after}
use Rattle.schedules.specs.AffineMaps.{map_value_at}
use Rattle.schedules.proofs.states.Steps.{times}
use Rattle.schedules.proofs.affine.steps.Given as goal

abbrev pub invariant-loop-left : goal.invariant-loop-left
invariant-loop-left l = (x : ℕ) → x < 2 ^ 64 → times (map_value_at l.square) l.left (map_value_at l.done x) ≡ state_after x l.count

abbrev pub decreases-loop-left : goal.decreases-loop-left
decreases-loop-left l = l.left
