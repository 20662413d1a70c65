use Rattle.std.proofs.Common.{◌∙◌, sym, false}
use Rattle.commit_book.proofs.books.HoldLists.{apart-given}
use Rattle.commit_book.proofs.books.LawfulLemmas.{with_holds, first_free-unheld}
use Rattle.commit_book.proofs.ledger.Ledger.next_free.Goals as goal

pub give-requires : goal.give-requires
give-requires c = first_free-unheld c.self.inside.holds c.self.inside.ready c.in-Some.item (sym c.first_free.ensures ∙ c.in-Some.is)

pub invariant_of-self-in-Some : goal.invariant_of-self-in-Some
invariant_of-self-in-Some c =
    with_holds _ _ _ c.self.invariant c.in_ok-give-in-Some.ensures.ok
    (apart-given c.self.inside.holds (record { worker = c.args.worker; iter = c.args.iter; item = c.in-Some.item; named = false }) (first_free-unheld c.self.inside.holds c.self.inside.ready c.in-Some.item (sym c.first_free.ensures ∙ c.in-Some.is)) c.self.invariant.apart)
