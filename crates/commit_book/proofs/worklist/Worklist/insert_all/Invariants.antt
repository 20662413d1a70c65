use Rattle.std.proofs.Common.{◌≡◌, take}
use Rattle.gx_base.specs.Worklists.{with_items}
use Rattle.commit_book.proofs.worklist.Worklist.insert_all.Given as goal

-- the items so far are ready
abbrev pub invariant-loop-item : goal.invariant-loop-item
invariant-loop-item l = l.self ≡ with_items l.fn.self (take l.item-index l.items)
