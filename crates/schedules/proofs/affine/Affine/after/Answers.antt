use Rattle.std.proofs.Common.{◌∙◌, ap, ℕ, ◌+◌, ◌*◌, ◌%◌}
use Rattle.schedules.specs.AffineMaps.{map_value_at}
use Rattle.schedules.proofs.states.AffineLaws.{composed}
use Rattle.schedules.proofs.affine.Affine.after.Goals as goal

pub returns : goal.returns
unfolding map_value_at
returns c x =
    ap (λ (term : ℕ). ((c.args.self.factor * c.args.first.factor % 18446744073709551616) * x + term) % 18446744073709551616) c.at.ensures
    ∙ composed c.args.self.factor c.args.self.term c.args.first.factor c.args.first.term x 18446744073709551616
