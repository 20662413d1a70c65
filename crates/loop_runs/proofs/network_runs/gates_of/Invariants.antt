use Rattle.std.proofs.Common.{◌≡◌, map}
use Rattle.flow_graph.specs.FlowState.{state_of}
use Rattle.loop_runs.specs.LoopRooms.{gates_over}
use Rattle.loop_runs.specs.NetworkLoop.{shard_tables}
use Rattle.loop_runs.proofs.network_runs.gates_of.Given as goal

-- the shards so far have their gates
abbrev pub invariant-loop-shard : goal.invariant-loop-shard
invariant-loop-shard l = l.values.items ≡ gates_over (shard_tables l.table) (map state_of l.yielded)
