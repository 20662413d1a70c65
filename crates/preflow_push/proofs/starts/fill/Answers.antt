use Rattle.std.proofs.Common.{◌≡◌, ap, ◌∙◌, to_z, of_z, rules}
use Rattle.std.proofs.lemmas.Int.{to_z-of_z}
use Rattle.std.specs.Int.{w64}
use Rattle.preflow_push.specs.FlowCalls.{minus}
use Rattle.preflow_push.proofs.start_states.FlowWrites.{shard_rooms, fills}
use Rattle.preflow_push.proofs.starts.fill.Goals as goal

pub returns : goal.returns
returns c =
    let cap : to_z w64 (of_z w64 c.args.arc.now.cap) ≡ c.args.arc.now.cap = to_z-of_z w64 c.args.arc.now.cap (search rules) in
    let from : to_z w64 (of_z w64 c.args.arc.now.from) ≡ c.args.arc.now.from = to_z-of_z w64 c.args.arc.now.from (search rules) in
    let to : to_z w64 (of_z w64 c.args.arc.now.to) ≡ c.args.arc.now.to = to_z-of_z w64 c.args.arc.now.to (search rules) in
    let less : to_z w64 (of_z w64 c.wrapping_neg.result) ≡ minus c.args.arc.now.cap = to_z-of_z w64 c.wrapping_neg.result (search rules) ∙ c.wrapping_neg.ensures ∙ ap minus cap in
    fills (shard_rooms c.args.shards.now) (shard_rooms c.send.new.shards) (shard_rooms c.gain.new.shards) (shard_rooms c.gain-2.new.shards) c.args.arc.now c.args.number _ _ _ _ _ _
    c.in_ok-send.ensures c.in_ok-gain.ensures c.in_ok-gain-2.ensures (to_z-of_z w64 c.args.number c.ranges.number) cap from less to cap
