use Rattle.std.proofs.Common.{◌∙◌, sym, ap, []}
use Rattle.commit_book.specs.BookViews.{commit}
use Rattle.commit_book.proofs.books.LawfulLemmas.{committed, committed_lawful}
use Rattle.commit_book.proofs.ledger.Ledger.commit.Goals as goal

pub invariant_of-self-2 : goal.invariant_of-self-2
invariant_of-self-2 c =
    committed_lawful _ c.args.worker c.args.iter c.args.item c.args.log.now c.args.pushes.now _ _ _ _ c.self.invariant (sym c.why_not.ensures ∙ c.in_default.is)
    c.in_default-take_in.ensures.ok.0 c.leave.ensures.ready c.leave.ensures.holds c.in_default-take_in.ensures.ok.1

pub returns-clause-ok : goal.returns-clause-ok
returns-clause-ok c =
    committed _ c.args.worker c.args.iter c.args.item c.args.log.now c.args.pushes.now _ _ _ _ c.self.invariant.rising
    c.in_default-take_in.ensures.ok.0 c.leave.ensures.ready c.leave.ensures.holds c.in_default-take_in.ensures.ok.1
    ∙ ap (λ b. commit b c.args.worker c.args.iter c.args.item (record { steps = c.args.log.now; pushes = c.args.pushes.now; withdrawn = [] })) c.self.view_is
