use Rattle.std.proofs.Common.{ap, ◌∙◌}
use Rattle.std.proofs.lemmas.Int.{to_z-of_z}
use Rattle.std.specs.Int.{w64}
use Rattle.gx_base.specs.FlowKind.{excess_sort}
use Rattle.preflow_push.specs.FlowCalls.{room_of}
use Rattle.preflow_push.proofs.start_states.FlowRooms.{missing_room}
use Rattle.preflow_push.proofs.rooms.excess_in.Goals as goal

pub returns-in-None : goal.returns-in-None
returns-in-None c =
    missing_room c.args.shards.now c.room_of.result (room_of c.args.node) (excess_sort, c.args.node)
    (c.room_of.ensures.value ∙ ap room_of (to_z-of_z w64 c.args.node c.ranges.node)) c.in-None.ensures.lookup.3
