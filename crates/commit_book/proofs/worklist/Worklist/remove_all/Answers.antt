use Rattle.std.proofs.Common.{refl}
use Rattle.gx_base.specs.Worklists.{without_items}
use Rattle.commit_book.proofs.ready.ReadySets.{one_fewer_ready}
use Rattle.commit_book.proofs.worklist.Worklist.remove_all.Goals as goal

pub loop-item-init : goal.loop-item-init
unfolding without_items
loop-item-init c = refl

pub loop-item-preserved : goal.loop-item-preserved
loop-item-preserved c =
    one_fewer_ready c.args.items.now c.args.self.now c.loop-item.self c.remove.new.self c.loop-item.item-index _ c.loop-item-test.true c.loop-item.invariant c.remove.ensures
