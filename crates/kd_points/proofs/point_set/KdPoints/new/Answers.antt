use Rattle.point_trees.proofs.CallerLemmas.{blank_sound, blank_state}
use Rattle.kd_points.proofs.point_set.KdPoints.new.Goals as goal

pub invariant_of-result : goal.invariant_of-result
invariant_of-result c = record { sound = blank_sound c.new.result c.new.ensures }

pub returns-clause-state : goal.returns-clause-state
returns-clause-state c = blank_state c.new.result c.new.ensures
