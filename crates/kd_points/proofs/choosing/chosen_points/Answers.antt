use Rattle.std.proofs.Common.{subst, sym}
use Rattle.std.proofs.lemmas.List.Sums.{fold_more}
use Rattle.kd_points.specs.PointsState.{no_points, with_added}
use Rattle.kd_points.specs.PointLists.{IsChosen}
use Rattle.kd_points.proofs.choosing.chosen_points.Goals as goal

pub loop-spot-preserved : goal.loop-spot-preserved
loop-spot-preserved c = subst (λ s. IsChosen s c.take.new.self) (sym (fold_more with_added no_points c.args.spots.now c.loop-spot.spot-index _ c.loop-spot-test.true)) (c.in_ok-take.ensures _ c.loop-spot.invariant)
