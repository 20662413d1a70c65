use Rattle.commit_book.proofs.books.HoldLists.{named-with_name}
use Rattle.commit_book.proofs.laws.names_are_kept.Goals as goal

pub returns : goal.returns
returns c = λ b worker iter by. named-with_name b.holds worker iter by
