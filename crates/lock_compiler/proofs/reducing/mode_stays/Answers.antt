use Rattle.std.proofs.Common.{sym, ap}
use Rattle.std.specs.Prelude.{not}
use Rattle.std.proofs.lemmas.Bool.{and_right}
use Rattle.lock_compiler.specs.Reduced.{all_below, is_idle_mode, is_unlike}
use Rattle.lock_compiler.proofs.reduction.Below.{all_below-not}
use Rattle.lock_compiler.proofs.reducing.mode_stays.Goals as goal

pub returns-then-are_alike : goal.returns-then-are_alike
returns-then-are_alike c =
    sym (and_right (not (is_idle_mode c.args.modes.now c.args.mode)) (all_below (is_unlike c.args.modes.now c.args.mode) c.args.mode)
    (all_below-not (is_unlike c.args.modes.now c.args.mode) c.args.mode c.loop-earlier.earlier c.loop-earlier-test.true (ap not (sym c.if-are_alike.ensures))))
