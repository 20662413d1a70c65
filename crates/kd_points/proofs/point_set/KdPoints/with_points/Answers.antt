use Rattle.std.proofs.Common.{subst}
use Rattle.kd_points.specs.PointsState.{added_points}
use Rattle.point_trees.specs.Rebuilding.{IsMadeOf}
use Rattle.kd_points.proofs.lists.Choosing.{made_state}
use Rattle.kd_points.proofs.point_set.KdPoints.with_points.Goals as goal

pub returns-clause-state : goal.returns-clause-state
returns-clause-state c = made_state (added_points c.args.spots.now) c.in_ok-points.points.items c.in_ok-of_points.field-0 c.in_ok-points.ensures (subst (λ spots. IsMadeOf spots c.in_ok-of_points.field-0) c.deref_mut.ensures.value c.in_ok-of_points.ensures)
