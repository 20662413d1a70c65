use Rattle.commit_book.proofs.books.LawfulLemmas.{new_lawful}
use Rattle.commit_book.proofs.laws.new_books_are_lawful.Goals as goal

pub returns : goal.returns
returns c = new_lawful
