use Rattle.std.proofs.Common.{◌≡◌, take}
use Rattle.shared_sets.specs.CellsState.{cells_state}
use Rattle.clustering.specs.Starts.{start_weights}
use Rattle.clustering.proofs.starts.weights_of.Given as goal

abbrev pub invariant-loop-spot : goal.invariant-loop-spot
invariant-loop-spot l = cells_state l.weights ≡ start_weights (take l.spot-index l.spots)
