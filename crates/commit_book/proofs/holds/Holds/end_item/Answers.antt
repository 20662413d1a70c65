use Rattle.std.proofs.Common.{◌∙◌, sym, ap, subst}
use Rattle.gx_base.specs.Worklists.{item_cmp}
use Rattle.commit_book.specs.BookViews.{without_item_held}
use Rattle.commit_book.specs.LawfulBooks.{AreHeldApart}
use Rattle.commit_book.specs.StoredBooks.{holds_of}
use Rattle.commit_book.proofs.books.HoldLists.{held-remove_entry, apart_rising, apart-without_item}
use Rattle.commit_book.proofs.holds.Holds.end_item.Goals as goal

pub invariant_of-self : goal.invariant_of-self
unfolding item_cmp
invariant_of-self c =
    subst AreHeldApart (sym (ap holds_of c.remove.ensures.entries ∙ held-remove_entry c.self.inside.holders.entries c.args.item (apart_rising _ c.self.invariant)))
    (apart-without_item (holds_of c.self.inside.holders.entries) c.args.item c.self.invariant)

pub returns : goal.returns
unfolding item_cmp
returns c =
    ap holds_of c.remove.ensures.entries ∙ held-remove_entry c.self.inside.holders.entries c.args.item (apart_rising _ c.self.invariant)
    ∙ ap (λ holds. without_item_held holds c.args.item) c.self.view_is
