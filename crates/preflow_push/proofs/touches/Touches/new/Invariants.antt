use Rattle.std.proofs.Common.{◌≡◌, ℤ, ◌+◌, ◌++◌, drop}
use Rattle.preflow_push.specs.Touching.{touching, touching_from}
use Rattle.preflow_push.specs.TouchLists.{touches_of}
use Rattle.preflow_push.proofs.touches.Touches.new.Given as goal

abbrev pub invariant-loop-at : goal.invariant-loop-at
invariant-loop-at l = (node : ℤ) → touches_of l.touches node ++ touching_from (l.at + 1) node (drop l.at l.arcs) ≡ touching node l.arcs
