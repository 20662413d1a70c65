use Rattle.std.proofs.Common.{◌≡◌, ◌<◌, length, ap, ◌∙◌, to_z, of_z, arith}
use Rattle.std.proofs.lemmas.Int.{to_z-of_z}
use Rattle.std.specs.Int.{w64}
use Rattle.preflow_push.specs.FlowCalls.{room_of, flow_call_of}
use Rattle.preflow_push.proofs.start_states.FlowWrites.{made_in}
use Rattle.preflow_push.proofs.starts.make.Goals as goal

pub returns : goal.returns
returns c =
    let number : to_z w64 (of_z w64 c.args.number) ≡ c.args.number = to_z-of_z w64 c.args.number c.ranges.number in
    let amount : to_z w64 (of_z w64 c.args.amount) ≡ c.args.amount = to_z-of_z w64 c.args.amount c.ranges.amount in
    let lt : c.room_of.result < length c.args.shards.now = omega (arith, c.room_of.ensures.few) in
    made_in c.args.shards.now c.room_of.result (room_of c.args.number) c.index-shards-room_of.result c.apply.new.self c.flow_call.result (flow_call_of c.args.method c.args.number c.args.amount)
    (c.room_of.ensures.value ∙ ap room_of number) (c.flow_call.ensures ∙ (λ i. flow_call_of c.args.method (number i) (amount i))) lt c.in_ok-apply.ensures.ok
