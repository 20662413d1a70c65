use Rattle.commit_book.proofs.books.LawfulLemmas.{next_free_lawful, hold_lawful, put_back_lawful, name_off_lawful}
use Rattle.commit_book.proofs.laws.holds_keep_books.Goals as goal

pub returns : goal.returns
returns c = record { next_free = next_free_lawful; hold = hold_lawful; put_back = put_back_lawful; name_off = name_off_lawful }
