-- What a report says of the order in which the items of points have committed.
use Rattle.std.specs.Prelude.{◌≡◌, ℕ, ◌≤◌, Some, List, [], ◌++◌, length}
use Rattle.gx_base.specs.declared.calls.Spot.{Spot}
use Rattle.gx_base.specs.declared.items.Item.{Item}
use Rattle.gx_base.specs.Worklists.{with_items}
use Rattle.gx_base.specs.SerialIterations.{Ended, serial}
use Rattle.clustering.specs.PointRows.{Coordinates}
use Rattle.clustering.specs.PointFiles.{numbered_spots, most_points}
use Rattle.clustering.specs.Starts.{start_states, start_ready}
use Rattle.clustering.specs.ClusterReports.{cluster_report}
use Rattle.cluster_laws.specs.ClusterRuns.{chain_operator}

-- the points are numbered from 0, and no more than may be read
pub record AreNumberedFromZero (spots : List Spot) : Type 0 where
  pub places : List Coordinates
  pub are : spots ≡ numbered_spots 0 places
  pub within : length spots ≤ most_points

-- the serial iteration of this order from the points' start is defined, and the bytes begin with its report
pub record ReportsOrder (spots : List Spot) (bytes : List ℕ) (order : List Item) : Type 0 where
  pub ended : Ended
  pub in_turn : serial (chain_operator (length spots)) (start_states spots) (with_items [] (start_ready spots)) order ≡ Some ended
  pub more : List ℕ
  pub begins : bytes ≡ cluster_report (length spots) order ended.states ++ more
