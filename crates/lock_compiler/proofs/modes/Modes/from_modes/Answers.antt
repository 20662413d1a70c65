use Rattle.std.proofs.Common.{◌≡◌, ◌<◌, ◌^◌, ℕ, List, length, arith, subst}
use Rattle.std.specs.Prelude.{All}
use Rattle.lock_compiler.specs.declared.modes.Mode.{Mode}
use Rattle.lock_compiler.specs.declared.wants.MethodWants.{MethodWants}
use Rattle.lock_compiler.specs.LockModes.{wants_of}
use Rattle.lock_compiler.specs.Wants.{modes_of, wanted_in}
use Rattle.lock_compiler.proofs.keeping.Lists.{kept}
use Rattle.lock_compiler.proofs.modes.Modes.from_modes.Goals as goal

pub invariant_of-result : goal.invariant_of-result
invariant_of-result c =
    let few : length c.deref.result.now < 2 ^ 32 = omega arith in
    kept c.args.modes.items c.in_ok-wants.wants.items (subst (λ (modes : List Mode). length modes < 2 ^ 32) c.deref.ensures.value few)
    (subst (λ (lists : List MethodWants). All (λ (list : MethodWants). length list.wants.items < 2 ^ 32) lists) c.deref-2.ensures.value c.if-not-are_few.ensures)
    (subst (λ (modes : List Mode). (m : ℕ) → wanted_in c.in_ok-wants.wants.items m ≡ wants_of (modes_of modes) m) c.deref.ensures.value c.in_ok-wants.ensures)
