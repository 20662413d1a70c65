use Rattle.std.proofs.Common.{length, sym, arith}
use Rattle.lock_compiler.specs.Reduced.{are_compatible}
use Rattle.lock_compiler.proofs.reduction.Below.{all_below-not}
use Rattle.lock_compiler.proofs.reducing.is_idle_mode.Goals as goal

pub returns-then-not-are_compatible : goal.returns-then-not-are_compatible
returns-then-not-are_compatible c =
    sym (all_below-not (are_compatible c.args.modes.now c.args.mode) (length c.args.modes.now) c.loop-other.other (omega arith) (sym c.if-not-are_compatible.ensures))
