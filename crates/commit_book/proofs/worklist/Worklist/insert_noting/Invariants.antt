use Rattle.std.proofs.Common.{◌≡◌, take}
use Rattle.gx_base.specs.Worklists.{with_items}
use Rattle.commit_book.proofs.ready.RisingItems.{IsNoted}
use Rattle.commit_book.proofs.worklist.Worklist.insert_noting.Given as goal

-- the items so far are ready, and those of them that weren't before are noted
abbrev pub invariant-loop-item : goal.invariant-loop-item
invariant-loop-item l = record { so_far : l.self ≡ with_items l.fn.self (take l.item-index l.items); noted : IsNoted l.fn.self l.self l.added.items }
