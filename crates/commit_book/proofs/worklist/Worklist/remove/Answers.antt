use Rattle.std.proofs.Common.{◌∙◌, sym, ap}
use Rattle.std.specs.List.{list_any}
use Rattle.std.specs.Ordering.{is_eq}
use Rattle.gx_base.specs.Worklists.{item_cmp, without_item}
use Rattle.commit_book.proofs.ready.ReadySets.{without_item-remove_key}
use Rattle.commit_book.proofs.worklist.Worklist.remove.Goals as goal

pub returns : goal.returns
unfolding item_cmp
returns c =
    c.remove.ensures.keys
    ∙ without_item-remove_key c.self.inside.items.keys c.args.item (ap (λ keys. list_any (λ y. is_eq (item_cmp c.args.item y)) keys) (sym c.remove.ensures.keys) ∙ c.remove.ensures.updates.1)
    ∙ ap (λ ready. without_item ready c.args.item) c.self.view_is
