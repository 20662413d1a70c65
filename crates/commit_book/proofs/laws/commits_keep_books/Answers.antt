use Rattle.commit_book.proofs.books.LawfulLemmas.{commit_lawful}
use Rattle.commit_book.proofs.laws.commits_keep_books.Goals as goal

pub returns : goal.returns
returns c = commit_lawful
