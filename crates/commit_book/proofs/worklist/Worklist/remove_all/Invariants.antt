use Rattle.std.proofs.Common.{◌≡◌, take}
use Rattle.gx_base.specs.Worklists.{without_items}
use Rattle.commit_book.proofs.worklist.Worklist.remove_all.Given as goal

-- the items so far are out
abbrev pub invariant-loop-item : goal.invariant-loop-item
invariant-loop-item l = l.self ≡ without_items l.fn.self (take l.item-index l.items)
