use Rattle.std.proofs.Common.{◌<◌, ℕ, List, length, sym, subst}
use Rattle.std.specs.Prelude.{All}
use Rattle.lock_compiler.specs.Reduced.{mode_stays}
use Rattle.lock_compiler.proofs.reduction.Below.{all_numbers_below}
use Rattle.lock_compiler.proofs.reducing.joined_mode.Goals as goal

pub refusals-requires-clause-others : goal.refusals-requires-clause-others
refusals-requires-clause-others c =
    subst (λ (xs : List ℕ). All (λ n. n < length c.args.modes.now) xs) (sym c.requires.listed) (all_numbers_below (mode_stays c.args.modes.now) (length c.args.modes.now))
