use Rattle.std.proofs.Common.{◌<◌, length, sym, ◌∙◌, arith}
use Rattle.std.proofs.lemmas.List.{get_or_read}
use Rattle.lock_compiler.proofs.keeping.Numbers.{Belongs, belongs, comes_last}
use Rattle.lock_compiler.proofs.members.add_number.Goals as goal

pub index-requires : goal.index-requires
index-requires c =
    let below : c.in-Some.place < length c.deref.result.now = (belongs c.args.number _ _ (sym c.in-Some.ensures)).inside in
    omega arith

pub insert-requires : goal.insert-requires
insert-requires c =
    let below : c.in-Some.place < length c.deref.result.now = (belongs c.args.number _ _ (sym c.in-Some.ensures)).inside in
    omega arith

pub returns-in_ok-push-in-None : goal.returns-in_ok-push-in-None
returns-in_ok-push-in-None c = rw c.in_ok-push-in-None.ensures.items (sym (comes_last c.args.number _ (rw c.deref.ensures.value at (sym c.in-None.ensures))))

pub returns-in_ok-insert-in-Some : goal.returns-in_ok-insert-in-Some
returns-in_ok-insert-in-Some c =
    let there : Belongs c.args.number c.args.numbers.now.items c.in-Some.place = belongs c.args.number c.args.numbers.now.items c.in-Some.place (rw c.deref.ensures.value at (sym c.in-Some.ensures)) in
    rw c.in_ok-insert-in-Some.ensures.items (sym (there.put (λ e.
    c.if-index-number.true (get_or_read c.args.numbers.now.items c.in-Some.place c.index.result.now there.inside c.index.ensures 0 ∙ e))))

pub returns-else-index-number : goal.returns-else-index-number
returns-else-index-number c =
    let there : Belongs c.args.number c.args.numbers.now.items c.in-Some.place = belongs c.args.number c.args.numbers.now.items c.in-Some.place (rw c.deref.ensures.value at (sym c.in-Some.ensures)) in
    sym (there.there (sym (get_or_read c.args.numbers.now.items c.in-Some.place c.index.result.now there.inside c.index.ensures 0) ∙ c.if-index-number.false))
