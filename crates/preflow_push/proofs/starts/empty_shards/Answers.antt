use Rattle.std.proofs.Common.{◌≡◌, ℕ, map, replicate, subst, arith}
use Rattle.flow_graph.specs.FlowState.{state_of}
use Rattle.preflow_push.specs.FlowCalls.{rooms}
use Rattle.preflow_push.specs.Starts.{empty_shard}
use Rattle.preflow_push.proofs.starts.empty_shards.Goals as goal

pub returns : goal.returns
returns c =
    let count : c.loop.counter ≡ rooms = omega arith in
    subst (λ (n : ℕ). map state_of c.loop.shards.items ≡ replicate n empty_shard) count c.loop.invariant
