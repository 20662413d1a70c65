use Rattle.std.proofs.Common.{◌≡◌, ◌∙◌, ap, ℤ, rules, arith, to_z, of_z}
use Rattle.std.specs.Prelude.{◌+ℤ◌, ◌*ℤ◌, FitsSigned}
use Rattle.std.specs.Int.{w64, w128}
use Rattle.std.proofs.lemmas.Int.{to_z-of_z, ints}
use Rattle.clustering.proofs.merges.whole.Goals as goal

pub returns : goal.returns
returns c =
    let v : to_z w64 (of_z w64 c.args.first_weight) ≡ c.args.first_weight = to_z-of_z w64 c.args.first_weight c.ranges.first_weight in
    let x : to_z w64 (of_z w64 c.args.first) ≡ c.args.first = to_z-of_z w64 c.args.first c.ranges.first in
    let w : to_z w64 (of_z w64 c.args.second_weight) ≡ c.args.second_weight = to_z-of_z w64 c.args.second_weight c.ranges.second_weight in
    let y : to_z w64 (of_z w64 c.args.second) ≡ c.args.second = to_z-of_z w64 c.args.second c.ranges.second in
    let p : to_z w128 (of_z w128 c.product.result) ≡ c.product.result = to_z-of_z w128 c.product.result (search rules) in
    let q : to_z w128 (of_z w128 c.product-2.result) ≡ c.product-2.result = to_z-of_z w128 c.product-2.result (search rules) in
    let first : c.product.result ≡ c.args.first_weight *ℤ c.args.first = cc in
    let second : c.product-2.result ≡ c.args.second_weight *ℤ c.args.second = cc in
    let fits : FitsSigned w128 (to_z w128 (of_z w128 c.product.result) +ℤ to_z w128 (of_z w128 c.product-2.result)) = first_of (search rules, omega (arith, ints, c.product.ensures.bound, c.product-2.ensures.bound)) in
    to_z-of_z w128 (to_z w128 (of_z w128 c.product.result) +ℤ to_z w128 (of_z w128 c.product-2.result)) fits
    ∙ ap (λ (z : ℤ). z +ℤ to_z w128 (of_z w128 c.product-2.result)) (p ∙ first) ∙ ap (λ (z : ℤ). (c.args.first_weight *ℤ c.args.first) +ℤ z) (q ∙ second)
