use Rattle.std.proofs.Common.{◌≡◌, ◌∙◌, ap, rules, to_z, of_z}
use Rattle.std.specs.Prelude.{◌*ℤ◌}
use Rattle.std.specs.Int.{w64, w128}
use Rattle.std.proofs.lemmas.Int.{to_z-of_z}
use Rattle.clustering.proofs.means.WrappedMeans.{product_bound, abs_small}
use Rattle.clustering.proofs.merges.product.Goals as goal

pub returns-clause-bound : goal.returns-clause-bound
returns-clause-bound c =
    let weight : to_z w64 (of_z w64 c.args.weight) ≡ c.args.weight = to_z-of_z w64 c.args.weight c.ranges.weight in
    let coordinate : to_z w64 (of_z w64 c.args.coordinate) ≡ c.args.coordinate = to_z-of_z w64 c.args.coordinate c.ranges.coordinate in
    let whole : to_z w128 (of_z w128 c.times.result) ≡ c.times.result = to_z-of_z w128 c.times.result (search rules) in
    let product : c.times.result ≡ c.args.weight *ℤ c.args.coordinate = cc in
    product_bound _ c.args.weight c.args.coordinate (whole ∙ product) (abs_small c.args.coordinate c.ranges.coordinate)
