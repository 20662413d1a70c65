use Rattle.std.proofs.Common.{◌≡◌}
use Rattle.commit_book.specs.BookViews.{held_by}
use Rattle.commit_book.specs.StoredBooks.{holds_of}
use Rattle.commit_book.proofs.holds.Holds.held_by.Given as goal

-- the iteration's hold is among those that are left
abbrev pub invariant-loop-item : goal.invariant-loop-item
invariant-loop-item l = held_by (holds_of l.item-iterator) l.worker l.iter ≡ held_by l.self l.worker l.iter
