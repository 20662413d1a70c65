use Rattle.std.proofs.Common.{◌≡◌, ◌∙◌, sym, ap, subst, Some}
use Rattle.gx_base.specs.Worklists.{item_cmp}
use Rattle.commit_book.specs.BookViews.{held_by, without_iteration}
use Rattle.commit_book.specs.LawfulBooks.{AreHeldApart}
use Rattle.commit_book.specs.StoredBooks.{holds_of}
use Rattle.commit_book.proofs.books.HoldLists.{held-remove_entry, apart_rising, apart-without_item, ended-item, none-ended}
use Rattle.commit_book.proofs.holds.Holds.end_iteration.Goals as goal

pub invariant_of-self : goal.invariant_of-self
unfolding item_cmp
invariant_of-self c =
    subst AreHeldApart (sym (ap holds_of c.remove.ensures.entries ∙ held-remove_entry c.self.inside.holders.entries c.in-Some.item (apart_rising _ c.self.invariant)))
    (apart-without_item (holds_of c.self.inside.holders.entries) c.in-Some.item c.self.invariant)

pub returns-in-Some : goal.returns-in-Some
unfolding item_cmp
returns-in-Some c =
    let held : held_by (holds_of c.self.inside.holders.entries) c.args.worker c.args.iter ≡ Some c.in-Some.item =
    ap (λ holds. held_by holds c.args.worker c.args.iter) c.self.view_is ∙ sym c.held_by.ensures ∙ c.in-Some.is in
    ap holds_of c.remove.ensures.entries ∙ held-remove_entry c.self.inside.holders.entries c.in-Some.item (apart_rising _ c.self.invariant)
    ∙ sym (ended-item (holds_of c.self.inside.holders.entries) c.args.worker c.args.iter c.in-Some.item c.self.invariant held)
    ∙ ap (λ holds. without_iteration holds c.args.worker c.args.iter) c.self.view_is

pub returns-in_default : goal.returns-in_default
returns-in_default c = sym (none-ended c.args.self.now c.args.worker c.args.iter (sym c.held_by.ensures ∙ c.in_default.is))
