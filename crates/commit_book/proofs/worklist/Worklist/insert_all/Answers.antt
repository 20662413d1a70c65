use Rattle.std.proofs.Common.{refl}
use Rattle.gx_base.specs.Worklists.{with_items}
use Rattle.commit_book.proofs.ready.ReadySets.{one_more_ready}
use Rattle.commit_book.proofs.worklist.Worklist.insert_all.Goals as goal

pub loop-item-init : goal.loop-item-init
unfolding with_items
loop-item-init c = refl

pub loop-item-preserved : goal.loop-item-preserved
loop-item-preserved c =
    one_more_ready c.args.items.now c.args.self.now c.loop-item.self c.insert.new.self c.loop-item.item-index _ c.loop-item-test.true c.loop-item.invariant c.in_ok-insert.ensures.ok
