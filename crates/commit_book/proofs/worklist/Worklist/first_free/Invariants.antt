use Rattle.std.proofs.Common.{◌≡◌}
use Rattle.commit_book.specs.BookViews.{first_free}
use Rattle.commit_book.proofs.worklist.Worklist.first_free.Given as goal

-- the first free item is among those that are left
abbrev pub invariant-loop-item : goal.invariant-loop-item
invariant-loop-item l = first_free l.holds l.item-iterator ≡ first_free l.holds l.self
