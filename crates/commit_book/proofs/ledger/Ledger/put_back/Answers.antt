use Rattle.commit_book.proofs.books.HoldLists.{apart-without_iteration}
use Rattle.commit_book.proofs.books.LawfulLemmas.{with_holds}
use Rattle.commit_book.proofs.ledger.Ledger.put_back.Goals as goal

pub invariant_of-self : goal.invariant_of-self
invariant_of-self c = with_holds _ _ _ c.self.invariant c.end_iteration.ensures (apart-without_iteration _ c.args.worker c.args.iter c.self.invariant.apart)
