use Rattle.std.proofs.Common.{length, sym, arith}
use Rattle.lock_compiler.specs.Reduced.{tells_alike}
use Rattle.lock_compiler.proofs.reduction.Below.{all_below-not}
use Rattle.lock_compiler.proofs.reducing.are_alike.Goals as goal

pub returns-then-not-tells_alike : goal.returns-then-not-tells_alike
returns-then-not-tells_alike c =
    sym (all_below-not (tells_alike c.args.modes.now c.args.x c.args.y) (length c.args.modes.now) c.loop-other.other (omega arith) (sym c.if-not-tells_alike.ensures))
