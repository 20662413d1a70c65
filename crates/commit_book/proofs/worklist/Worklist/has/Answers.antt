use Rattle.std.proofs.Common.{◌∙◌, ap}
use Rattle.gx_base.specs.Worklists.{item_cmp, has_item}
use Rattle.commit_book.proofs.ready.ReadySets.{has_item-any}
use Rattle.commit_book.proofs.worklist.Worklist.has.Goals as goal

pub returns : goal.returns
unfolding item_cmp
returns c = c.contains.ensures ∙ has_item-any c.self.inside.items.keys c.args.item ∙ ap (λ ready. has_item ready c.args.item) c.self.view_is
