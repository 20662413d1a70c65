use Rattle.std.proofs.Common.{◌≡◌, map, replicate}
use Rattle.flow_graph.specs.FlowState.{state_of}
use Rattle.preflow_push.specs.Starts.{empty_shard}
use Rattle.preflow_push.proofs.starts.empty_shards.Given as goal

abbrev pub invariant-loop : goal.invariant-loop
invariant-loop l = map state_of l.shards.items ≡ replicate l.counter empty_shard
