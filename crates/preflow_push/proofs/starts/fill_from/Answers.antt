use Rattle.std.proofs.Common.{◌≡◌, true, false, sym, ap, ◌∙◌, to_z, of_z}
use Rattle.std.proofs.lemmas.Int.{to_z-of_z}
use Rattle.std.specs.Int.{w64}
use Rattle.std.specs.Ordering.{int_eq}
use Rattle.preflow_push.proofs.start_states.FlowWrites.{shard_rooms}
use Rattle.preflow_push.proofs.start_states.FlowPours.{filled_when, kept_else}
use Rattle.preflow_push.proofs.starts.fill_from.Goals as goal

pub returns-in_ok-fill : goal.returns-in_ok-fill
returns-in_ok-fill c =
    let source : to_z w64 (of_z w64 c.args.source) ≡ c.args.source = to_z-of_z w64 c.args.source c.ranges.source in
    let leaves : int_eq c.args.arc.now.from c.args.source ≡ true = sym (c.leaves.ensures ∙ ap (int_eq c.args.arc.now.from) source) ∙ c.if-leaves.true in
    filled_when c.args.source _ c.args.number c.args.arc.now (shard_rooms c.args.shards.now) (shard_rooms c.fill.new.shards) leaves (to_z-of_z w64 c.args.number c.ranges.number) c.in_ok-fill.ensures

pub returns-else-leaves : goal.returns-else-leaves
returns-else-leaves c =
    let source : to_z w64 (of_z w64 c.args.source) ≡ c.args.source = to_z-of_z w64 c.args.source c.ranges.source in
    let stays : int_eq c.args.arc.now.from c.args.source ≡ false = sym (c.leaves.ensures ∙ ap (int_eq c.args.arc.now.from) source) ∙ c.if-leaves.false in
    kept_else c.args.source c.args.number c.args.arc.now (shard_rooms c.args.shards.now) stays
