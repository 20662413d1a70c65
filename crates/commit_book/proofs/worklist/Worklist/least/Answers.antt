use Rattle.std.proofs.Common.{◌∙◌, sym, ap}
use Rattle.gx_base.specs.Worklists.{item_cmp, has_item, is_least}
use Rattle.commit_book.proofs.ready.ReadySets.{has_item-any, is_least-from}
use Rattle.commit_book.proofs.worklist.Worklist.least.Goals as goal

pub returns-in-Some-clause-ready : goal.returns-in-Some-clause-ready
unfolding item_cmp
returns-in-Some-clause-ready c =
    sym (has_item-any c.self.inside.items.keys c.in-Some.item.now ∙ ap (λ ready. has_item ready c.in-Some.item.now) c.self.view_is) ∙ c.in-Some.ensures.member

pub returns-in-Some-clause-least : goal.returns-in-Some-clause-least
unfolding item_cmp
returns-in-Some-clause-least c =
    ap (λ ready. is_least ready c.in-Some.item.now) (sym c.self.view_is) ∙ is_least-from c.in-Some.item.now c.self.inside.items.keys c.in-Some.ensures.all_from
