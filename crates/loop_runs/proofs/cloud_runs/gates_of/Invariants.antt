use Rattle.std.proofs.Common.{◌≡◌, map}
use Rattle.clustering.specs.CloudState.{state_of}
use Rattle.loop_runs.specs.LoopRooms.{gates_over}
use Rattle.loop_runs.specs.PointsLoop.{tables_in}
use Rattle.loop_runs.proofs.cloud_runs.gates_of.Given as goal

-- the rooms so far have their gates
abbrev pub invariant-loop-cloud : goal.invariant-loop-cloud
invariant-loop-cloud l = l.values.items ≡ gates_over (tables_in l.tables) (map state_of l.yielded)
