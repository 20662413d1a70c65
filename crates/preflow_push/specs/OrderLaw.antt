-- What a report says of the order in which a network's items have committed.
use Rattle.std.specs.Prelude.{◌≡◌, ℕ, Some, List, [], ◌++◌, FitsSigned}
use Rattle.std.specs.List.{AllByRecursion}
use Rattle.std.specs.Int.{w64}
use Rattle.gx_base.specs.declared.items.Item.{Item}
use Rattle.gx_base.specs.Worklists.{with_items}
use Rattle.gx_base.specs.SerialIterations.{Ended, serial}
use Rattle.flow_files.specs.declared.network.Arc.{Arc}
use Rattle.flow_files.specs.Networks.{Net}
use Rattle.preflow_push.specs.Discharge.{discharge_operator}
use Rattle.preflow_push.specs.Starts.{start_states, start_ready}
use Rattle.preflow_push.specs.FlowReports.{flow_report}

-- the numbers of the nodes have 64 bits, as all in code have
pub record HasNodesOfWords (net : Net) : Type 0 where
  pub nodes : FitsSigned w64 net.nodes
  pub ends : AllByRecursion (λ (arc : Arc). FitsSigned w64 arc.from × FitsSigned w64 arc.to) net.arcs

-- the serial iteration of this order from the network's start is defined, and the bytes begin with its report
pub record ReportsOrder (net : Net) (bytes : List ℕ) (order : List Item) : Type 0 where
  pub ended : Ended
  pub in_turn : serial (discharge_operator net) (start_states net) (with_items [] (start_ready net)) order ≡ Some ended
  pub more : List ℕ
  pub begins : bytes ≡ flow_report net order ended.states ++ more
