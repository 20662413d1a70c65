use Rattle.std.proofs.Common.{sym, ◌∙◌, ap}
use Rattle.gx_base.specs.Worklists.{has_item}
use Rattle.commit_book.specs.BookViews.{BookView}
use Rattle.commit_book.specs.StoredBooks.{book_with}
use Rattle.commit_book.proofs.books.LawfulLemmas.{none_ready}
use Rattle.commit_book.proofs.book.Book.is_ready.Goals as goal

pub returns-in-None : goal.returns-in-None
returns-in-None c = sym (none_ready c.args.item) ∙ ap (λ (b : BookView). has_item b.ready c.args.item) (ap book_with (sym c.in-None.is) ∙ c.self.view_is)
