use Rattle.std.proofs.Common.{◌≡◌, ◌∙◌, ap, ℤ, pos, ◌^◌, rules, arith, to_z, of_z}
use Rattle.std.specs.Prelude.{◌-ℤ◌, FitsSigned}
use Rattle.std.specs.Int.{w64, w128, int_wrap}
use Rattle.std.proofs.lemmas.Int.{to_z-of_z, ints}
use Rattle.clustering.proofs.means.WrappedMeans.{wrapped_low, wrapped_high}
use Rattle.clustering.proofs.merges.wrapped.Goals as goal

pub returns-then-low : goal.returns-then-low
returns-then-low c =
    let low : to_z w128 (of_z w128 c.rem_euclid-low.result) ≡ c.rem_euclid-low.result = to_z-of_z w128 c.rem_euclid-low.result (search rules) in
    ap (λ (z : ℤ). to_z w64 (of_z w64 z)) low ∙ wrapped_low c.rem_euclid-low.result (to_z w128 (of_z w128 c.args.number)) c.rem_euclid-low.ensures.value
    ∙ ap (int_wrap w64) (to_z-of_z w128 c.args.number c.ranges.number)

pub returns-else-low : goal.returns-else-low
returns-else-low c =
    let low : to_z w128 (of_z w128 c.rem_euclid-low.result) ≡ c.rem_euclid-low.result = to_z-of_z w128 c.rem_euclid-low.result (search rules) in
    let fits : FitsSigned w128 (to_z w128 (of_z w128 c.rem_euclid-low.result) -ℤ pos 18446744073709551616) = first_of (search rules, omega (arith, ints)) in
    ap (λ (z : ℤ). to_z w64 (of_z w64 z)) (to_z-of_z w128 (to_z w128 (of_z w128 c.rem_euclid-low.result) -ℤ pos 18446744073709551616) fits)
    ∙ ap (λ (z : ℤ). to_z w64 (of_z w64 (z -ℤ pos 18446744073709551616))) low
    ∙ wrapped_high c.rem_euclid-low.result (to_z w128 (of_z w128 c.args.number)) c.rem_euclid-low.ensures.value
    ∙ ap (int_wrap w64) (to_z-of_z w128 c.args.number c.ranges.number)
