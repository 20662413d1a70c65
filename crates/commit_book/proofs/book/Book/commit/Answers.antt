use Rattle.std.proofs.Common.{◌≡◌, ℕ, length, Result, sym, subst, ap, ◌∙◌}
use Rattle.commit_book.specs.declared.refusals.CommitRefuse.{CommitRefuse}
use Rattle.commit_book.specs.BookViews.{BookView}
use Rattle.commit_book.specs.LawfulBooks.{IsRefusedBy, refusal}
use Rattle.commit_book.specs.StoredBooks.{book_with}
use Rattle.commit_book.proofs.books.LawfulLemmas.{none_commits}
use Rattle.commit_book.proofs.book.Book.commit.Goals as goal
use Rattle.commit_book.proofs.book.Book.commit.Goals.{in-Some, in-None}

pub returns-clause-refused : goal.returns-clause-refused
returns-clause-refused c = elim c.match-self.branch [
  | in-Some w ↦ subst (λ (r : Result ℕ CommitRefuse). IsRefusedBy (refusal c.args.self.now c.args.item (length c.args.log.now)) r) (sym w.result-is)
      (subst (λ (b : BookView). IsRefusedBy (refusal b c.args.item (length c.args.log.now)) w.commit.result) (w.deref_mut.ensures.value ∙ ap book_with (sym w.in-Some.is) ∙ c.self.view_is) w.commit.ensures.refused)
  | in-None w ↦ subst (λ (b : BookView). IsRefusedBy (refusal b c.args.item (length c.args.log.now)) c.match-self.result) (ap book_with (sym w.in-None.is) ∙ c.self.view_is)
      (none_commits c.args.item (length c.args.log.now) c.match-self.result w.result-is)
]
