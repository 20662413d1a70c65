use Rattle.commit_book.proofs.books.LawfulLemmas.{may_commit_then}
use Rattle.commit_book.proofs.laws.commits_are_in_turn.Goals as goal

pub returns : goal.returns
returns c = may_commit_then
