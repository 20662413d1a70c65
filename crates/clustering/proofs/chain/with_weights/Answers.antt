use Rattle.std.proofs.Common.{◌≡◌, ℤ, pos, true, false, int_le, subst, to_z, of_z}
use Rattle.std.specs.Prelude.{◌+ℤ◌}
use Rattle.std.proofs.lemmas.Int.{to_z-of_z}
use Rattle.std.specs.Int.{w64}
use Rattle.clustering.proofs.moves.ChainMoves.{no_weight, weighs, merge_along}
use Rattle.clustering.proofs.chain.with_weights.Goals as goal

pub returns-in-None : goal.returns-in-None
returns-in-None c =
    let w : to_z w64 (of_z w64 c.args.weight) ≡ c.args.weight = to_z-of_z w64 c.args.weight c.ranges.weight in
    let x : to_z w64 (of_z w64 c.args.other) ≡ c.args.other = to_z-of_z w64 c.args.other c.ranges.other in
    no_weight c.args.id c.args.weight c.args.other c.args.first c.args.second
    (subst (λ (z : ℤ). int_le (c.args.weight +ℤ z) (pos 0) ≡ true) x (subst (λ (z : ℤ). int_le (z +ℤ to_z w64 (of_z w64 c.args.other)) (pos 0) ≡ true) w (c.merge_of.ensures.none c.in-None.is)))

pub returns-in-Some : goal.returns-in-Some
returns-in-Some c =
    let i : to_z w64 (of_z w64 c.args.id) ≡ c.args.id = to_z-of_z w64 c.args.id c.ranges.id in
    let w : to_z w64 (of_z w64 c.args.weight) ≡ c.args.weight = to_z-of_z w64 c.args.weight c.ranges.weight in
    let x : to_z w64 (of_z w64 c.args.other) ≡ c.args.other = to_z-of_z w64 c.args.other c.ranges.other in
    let some = c.in-Some.ensures.some in
    weighs c.args.id c.args.weight c.args.other c.args.first c.args.second c.in-Some.merge c.point_act.result
    (subst (λ (z : ℤ). int_le (c.args.weight +ℤ z) (pos 0) ≡ false) x (subst (λ (z : ℤ). int_le (z +ℤ to_z w64 (of_z w64 c.args.other)) (pos 0) ≡ false) w some.0))
    (merge_along c.args.id _ c.args.weight _ c.args.other _ c.args.first c.args.second c.in-Some.merge i w x some.1) c.point_act.ensures
