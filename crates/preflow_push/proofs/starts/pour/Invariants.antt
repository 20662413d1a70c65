use Rattle.std.proofs.Common.{◌≡◌, ℕ, ◌+◌, ◌<◌, pos, map, drop}
use Rattle.gx_base.specs.Replays.{in_rooms}
use Rattle.flow_graph.specs.FlowState.{state_of}
use Rattle.preflow_push.specs.FlowStates.{flow_in}
use Rattle.preflow_push.specs.Starts.{poured}
use Rattle.preflow_push.proofs.starts.pour.Given as goal

abbrev pub invariant-loop-at : goal.invariant-loop-at
invariant-loop-at l = record {
  poured_so_far : poured l.source (l.at + 1) (drop l.at l.arcs) (in_rooms (map state_of l.shards)) ≡ poured l.source 1 l.arcs (in_rooms (map state_of l.fn.shards));
  no_flow : (arc : ℕ) → l.at < arc → flow_in (in_rooms (map state_of l.shards)) (pos arc) ≡ pos 0;
}
