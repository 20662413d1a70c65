use Rattle.std.proofs.Common.{◌≡◌, ◌+◌, ◌++◌, drop, map}
use Rattle.gx_base.specs.Replays.{in_rooms}
use Rattle.flow_graph.specs.FlowState.{state_of}
use Rattle.preflow_push.specs.FlowReports.{arc_lines}
use Rattle.preflow_push.proofs.reports.put_arcs.Given as goal

abbrev pub invariant-loop-at : goal.invariant-loop-at
invariant-loop-at l =
    l.text.items ++ arc_lines (in_rooms (map state_of l.shards)) (l.at + 1) (drop l.at l.arcs) ≡ l.fn.text.items ++ arc_lines (in_rooms (map state_of l.shards)) 1 l.arcs
