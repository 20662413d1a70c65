use Rattle.std.proofs.Common.{◌∙◌, sym, subst, false}
use Rattle.gx_base.specs.Worklists.{item_cmp}
use Rattle.commit_book.specs.LawfulBooks.{AreHeldApart}
use Rattle.commit_book.proofs.books.HoldLists.{apart-given, given-in_place, given-first}
use Rattle.commit_book.proofs.holds.Holds.give.Goals as goal

-- what is so of the holds as they are kept
pub returns-in_default-clause-ok : goal.returns-in_default-clause-ok
unfolding item_cmp
returns-in_default-clause-ok c =
    given-first c.self.inside.holders.entries _ c.args.self.now c.args.item (record { worker = c.args.worker; iter = c.args.iter }) c.self.view_is c.in_ok-insert.ensures.entries c.requires (sym c.held_by-before.ensures ∙ c.in_default.is)

pub returns-in-Some-clause-ok : goal.returns-in-Some-clause-ok
unfolding item_cmp
returns-in-Some-clause-ok c =
    given-in_place c.self.inside.holders.entries _ _ c.args.self.now c.args.item c.in-Some.held (record { worker = c.args.worker; iter = c.args.iter }) c.self.view_is c.in_ok-insert.ensures.entries c.remove.ensures.entries c.self.invariant c.requires (sym c.held_by-before.ensures ∙ c.in-Some.is)

pub invariant_of-self-in_default : goal.invariant_of-self-in_default
unfolding item_cmp
invariant_of-self-in_default c =
    subst AreHeldApart
    (sym (given-first c.self.inside.holders.entries _ c.args.self.now c.args.item (record { worker = c.args.worker; iter = c.args.iter }) c.self.view_is c.in_ok-insert.ensures.entries c.requires (sym c.held_by-before.ensures ∙ c.in_default.is)))
    (apart-given c.args.self.now (record { worker = c.args.worker; iter = c.args.iter; item = c.args.item; named = false }) c.requires (subst AreHeldApart c.self.view_is c.self.invariant))

pub invariant_of-self-in-Some : goal.invariant_of-self-in-Some
unfolding item_cmp
invariant_of-self-in-Some c =
    subst AreHeldApart
    (sym (given-in_place c.self.inside.holders.entries _ _ c.args.self.now c.args.item c.in-Some.held (record { worker = c.args.worker; iter = c.args.iter }) c.self.view_is c.in_ok-insert.ensures.entries c.remove.ensures.entries c.self.invariant c.requires (sym c.held_by-before.ensures ∙ c.in-Some.is)))
    (apart-given c.args.self.now (record { worker = c.args.worker; iter = c.args.iter; item = c.args.item; named = false }) c.requires (subst AreHeldApart c.self.view_is c.self.invariant))
