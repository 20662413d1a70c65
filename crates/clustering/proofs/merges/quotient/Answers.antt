use Rattle.std.proofs.Common.{◌∙◌, sym, ap, of_z}
use Rattle.std.specs.Int.{w128}
use Rattle.std.proofs.lemmas.Int.{to_z-of_z}
use Rattle.clustering.proofs.means.WrappedMeans.{not_minus_one}
use Rattle.clustering.proofs.merges.quotient.Goals as goal

pub div_euclid-requires-clause-no_overflow : goal.div_euclid-requires-clause-no_overflow
div_euclid-requires-clause-no_overflow c = λ e. absurd (not_minus_one c.args.weight c.requires c.ranges.weight (sym (ap (of_z w128) (to_z-of_z w128 c.args.weight c.ranges.weight)) ∙ e))
