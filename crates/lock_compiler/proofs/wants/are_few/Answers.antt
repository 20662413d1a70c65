use Rattle.std.proofs.Common.{◌<◌, ◌^◌, List, length, refl, subst}
use Rattle.std.specs.Prelude.{All}
use Rattle.std.proofs.lemmas.List.{take_all}
use Rattle.std.proofs.lemmas.List.Elements.{All-more}
use Rattle.lock_compiler.specs.declared.wants.MethodWants.{MethodWants}
use Rattle.lock_compiler.specs.LockModes.{Want}
use Rattle.lock_compiler.proofs.wants.are_few.Goals as goal

pub loop-list-preserved : goal.loop-list-preserved
loop-list-preserved c =
    All-more (λ (list : MethodWants). length list.wants.items < 2 ^ 32) c.args.lists.now c.loop-list.list-index c.list-item.result c.loop-list-test.true c.loop-list.invariant
    (subst (λ (list : MethodWants). length list.wants.items < 2 ^ 32) c.list-item.is
    (subst (λ (wants : List Want). length wants < 2 ^ 32) c.deref.ensures.value (c.if-not-is_few.ensures.0 refl)))

pub returns : goal.returns
returns c = subst (λ (lists : List MethodWants). All (λ (list : MethodWants). length list.wants.items < 2 ^ 32) lists) (take_all c.loop-list.list-index c.args.lists.now c.loop-list-test.false) c.loop-list.invariant
