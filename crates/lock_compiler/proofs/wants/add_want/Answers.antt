use Rattle.std.proofs.Common.{◌<◌, ◌++◌, ◌∷◌, [], List, length, refl, ap, ◌∙◌, sym, arith}
use Rattle.lock_compiler.specs.declared.wants.MethodWants.{MethodWants}
use Rattle.lock_compiler.specs.LockModes.{Want}
use Rattle.lock_compiler.proofs.keeping.Lists.{list_at, new_list}
use Rattle.lock_compiler.proofs.wants.add_want.Goals as goal

pub index_mut-list-requires : goal.index_mut-list-requires
index_mut-list-requires c =
    let below : c.in-Some.place < length c.deref.result.now = (list_at c.args.method _ _ (sym c.in-Some.ensures)).inside in
    omega arith

pub returns-in_ok-push-in-Some : goal.returns-in_ok-push-in-Some
returns-in_ok-push-in-Some c =
    (list_at c.args.method c.args.lists.now.items c.in-Some.place (rw c.deref.ensures.value at (sym c.in-Some.ensures))).adds c.args.want
    (record { method = c.index_mut-list.result.now.method; wants = c.push.new.self }) c.index_mut-list.result.now
    (ap (λ (list : MethodWants). list.method) c.index_mut-list.ensures.value)
    (c.in_ok-push-in-Some.ensures.items ∙ ap (λ (list : MethodWants). list.wants.items ++ c.args.want ∷ []) c.index_mut-list.ensures.value)

pub returns-in_ok-push-in-None-2 : goal.returns-in_ok-push-in-None-2
returns-in_ok-push-in-None-2 c =
    rw c.in_ok-push-in-None-2.ensures.items (new_list c.args.method c.args.want (record { method = c.args.method; wants = c.push-in-None.new.self }) c.args.lists.now.items refl
    (c.in_ok-push-in-None.ensures.items ∙ ap (λ (xs : List Want). xs ++ c.args.want ∷ []) c.new-wants.ensures.items)
    (rw c.deref.ensures.value at (sym c.in-None.ensures)))
