use Rattle.std.proofs.Common.{take}
use Rattle.kd_points.specs.PointsState.{added_points}
use Rattle.kd_points.specs.PointLists.{IsChosen}
use Rattle.kd_points.proofs.choosing.chosen_points.Given as goal

abbrev pub invariant-loop-spot : goal.invariant-loop-spot
invariant-loop-spot l = IsChosen (added_points (take l.spot-index l.spots)) l.chosen
