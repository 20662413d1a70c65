use Rattle.std.proofs.Common.{◌≡◌, ◌∙◌, ap, subst, ℤ, pos, false, int_le, rules, to_z, of_z}
use Rattle.std.specs.Prelude.{◌+ℤ◌}
use Rattle.std.specs.Int.{w64, w128}
use Rattle.std.proofs.lemmas.Int.{to_z-of_z}
use Rattle.clustering.specs.Chain.{merged}
use Rattle.clustering.proofs.moves.ChainMoves.{merge_is}
use Rattle.clustering.proofs.merges.merge_of.Goals as goal

pub returns-clause-some : goal.returns-clause-some
returns-clause-some c =
    let w : to_z w64 (of_z w64 c.args.weight) ≡ c.args.weight = to_z-of_z w64 c.args.weight c.ranges.weight in
    let x : to_z w64 (of_z w64 c.args.other) ≡ c.args.other = to_z-of_z w64 c.args.other c.ranges.other in
    let s : to_z w128 (of_z w128 c.sum.result) ≡ c.sum.result = to_z-of_z w128 c.sum.result (search rules) in
    let sum : c.sum.result ≡ c.args.weight +ℤ c.args.other = cc in
    let point = c.merged.ensures ∙ ap (λ (z : ℤ). merged c.args.first z c.args.second (to_z w64 (of_z w64 c.args.other))) w ∙ ap (λ (z : ℤ). merged c.args.first c.args.weight c.args.second z) x in (
      subst (λ (z : ℤ). int_le z (pos 0) ≡ false) (s ∙ sum) c.if-sum-le0.false,
      merge_is c.args.id (to_z w64 (of_z w64 c.args.id)) c.args.weight c.args.other c.args.first c.args.second c.merged.result (to_z-of_z w64 c.args.id c.ranges.id) point,
    )
