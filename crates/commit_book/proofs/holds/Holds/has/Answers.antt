use Rattle.std.proofs.Common.{◌∙◌, ap}
use Rattle.gx_base.specs.Worklists.{item_cmp}
use Rattle.commit_book.specs.BookViews.{is_held}
use Rattle.commit_book.proofs.books.HoldLists.{is_held-lookup}
use Rattle.commit_book.proofs.holds.Holds.has.Goals as goal

pub returns : goal.returns
unfolding item_cmp
returns c = c.contains_key.ensures ∙ is_held-lookup c.self.inside.holders.entries c.args.item ∙ ap (λ holds. is_held holds c.args.item) c.self.view_is
