use Rattle.std.proofs.Common.{◌<◌, ℕ, List, length, sym, subst}
use Rattle.std.specs.Prelude.{All}
use Rattle.lock_compiler.specs.Reduced.{mode_stays}
use Rattle.lock_compiler.proofs.reduction.Below.{all_numbers_below}
use Rattle.lock_compiler.proofs.reducing.all_merged.Goals as goal

pub joined_mode-requires-clause-one : goal.joined_mode-requires-clause-one
joined_mode-requires-clause-one c =
    subst (λ (xs : List ℕ). All (λ n. n < length c.args.modes.now) xs) (sym c.requires) (all_numbers_below (mode_stays c.args.modes.now) (length c.args.modes.now)) c.loop-mode.mode-index _ c.loop-mode-test.true
