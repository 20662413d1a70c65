use Rattle.std.proofs.Common.{◌≡◌, ℤ, ◌&&◌, map, take}
use Rattle.std.specs.BTreeSet as sorted
use Rattle.std.specs.Ordering.{int_cmp, int_eq}
use Rattle.std.specs.List.{list_any}
use Rattle.gx_base.specs.Replays.{in_rooms}
use Rattle.flow_graph.specs.FlowState.{state_of}
use Rattle.flow_files.specs.Networks.{view}
use Rattle.preflow_push.specs.Discharge.{is_node}
use Rattle.preflow_push.specs.Starts.{is_active}
use Rattle.preflow_push.proofs.starts.active_nodes.Given as goal

abbrev pub invariant-loop-arc : goal.invariant-loop-arc
invariant-loop-arc l = (node : ℤ) →
    sorted.contains int_cmp l.nodes node
    ≡ list_any (λ arc. int_eq node arc.to) (take l.arc-index l.net.arcs.items) && (is_node l.net.nodes node && is_active (view l.net) (in_rooms (map state_of l.shards)) node)
