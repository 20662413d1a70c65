use Rattle.commit_book.proofs.books.Pasts.{steps-sum}
use Rattle.commit_book.proofs.laws.steps_add_up.Goals as goal

pub returns : goal.returns
returns c = steps-sum
