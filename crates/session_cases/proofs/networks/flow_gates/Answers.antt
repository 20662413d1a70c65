use Rattle.std.proofs.Common.{arith, length, sym, ◌∙◌, ap, subst, length-append}
use Rattle.session_cases.specs.Beginnings.{AreNewGates}
use Rattle.session_cases.proofs.NewRooms.{new_gates_push, one_more_each}
use Rattle.session_cases.proofs.networks.flow_gates.Goals as goal

pub loop-shard-preserved : goal.loop-shard-preserved
loop-shard-preserved c =
    let items = c.in_ok-push.ensures.items in (
      subst AreNewGates (sym items) (new_gates_push c.loop-shard.values.items c.in_ok-flow_gate.field-0 c.loop-shard.invariant.0 c.in_ok-flow_gate.ensures),
      ap length items ∙ one_more_each c.loop-shard.values.items c.loop-shard.yielded _ c.in-Some.shard c.loop-shard.invariant.1,
    )
