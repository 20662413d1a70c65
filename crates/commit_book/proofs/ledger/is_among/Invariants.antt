use Rattle.std.proofs.Common.{◌≡◌, drop}
use Rattle.gx_base.specs.Worklists.{has_item}
use Rattle.commit_book.proofs.ledger.is_among.Given as goal

-- the item is among all where it is among those that are left
abbrev pub invariant-loop-other : goal.invariant-loop-other
invariant-loop-other l = has_item (drop l.other-index l.items) l.item ≡ has_item l.items l.item
