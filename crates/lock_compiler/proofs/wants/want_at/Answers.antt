use Rattle.std.proofs.Common.{ap, ◌∙◌, List}
use Rattle.std.specs.Prelude.{slice_get}
use Rattle.lock_compiler.specs.LockModes.{Want}
use Rattle.lock_compiler.specs.Wants.{wanted_in}
use Rattle.lock_compiler.proofs.keeping.Lists.{its_list, another_list, no_list_left, lent}
use Rattle.lock_compiler.proofs.wants.want_at.Goals as goal

pub loop-list-preserved : goal.loop-list-preserved
loop-list-preserved c =
    another_list c.args.method c.args.lists.now c.loop-list.list-index c.list-item.result (wanted_in c.args.lists.now c.args.method) c.loop-list-test.true c.list-item.is c.if-list-method.false c.loop-list.invariant

pub returns-then-list-method : goal.returns-then-list-method
returns-then-list-method c =
    c.copied.ensures ∙ lent _ c.deref.result.now c.args.i c.get.result c.get.ensures.lookup ∙ ap (λ (xs : List Want). slice_get xs c.args.i) (c.deref.ensures.value
    ∙ its_list c.args.method c.args.lists.now c.loop-list.list-index c.list-item.result (wanted_in c.args.lists.now c.args.method) c.loop-list-test.true c.list-item.is c.if-list-method.true c.loop-list.invariant)

pub returns : goal.returns
returns c =
    ap (λ (xs : List Want). slice_get xs c.args.i) (no_list_left c.args.method c.args.lists.now c.loop-list.list-index (wanted_in c.args.lists.now c.args.method) c.loop-list-test.false c.loop-list.invariant)
