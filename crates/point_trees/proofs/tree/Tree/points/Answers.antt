use Rattle.std.proofs.Common.{◌∙◌}
use Rattle.point_trees.proofs.rebuilds.Walks.{walk_begun, walk_taken, walk_passed, walk_done}
use Rattle.point_trees.proofs.tree.Tree.points.Goals as goal

pub loop-key-init : goal.loop-key-init
loop-key-init c = (tt, tt, walk_begun c.args.self.now c.in_ok-spots.spots.items c.into_iter-key-iterator.result c.in_ok-spots.ensures.items (c.into_iter-key-iterator.ensures.into_iter_gives ∙ c.iter-key-items.ensures.rest))

pub loop-key-preserved-in-Continue-branch-2 : goal.loop-key-preserved-in-Continue-branch-2
loop-key-preserved-in-Continue-branch-2 c =
    (tt, tt, walk_taken c.args.self.now c.loop-key.spots.items c.loop-key.key-iterator c.next.new.self c.in-Some.key c.in-Some.node.now c.in-Some.ensures.steps c.loop-key.invariant.2 c.requires c.push.new.self.items c.if-node.true c.in_ok-push.ensures.items)

pub loop-key-preserved : goal.loop-key-preserved
loop-key-preserved c =
    (tt, tt, walk_passed c.args.self.now c.loop-key.spots.items c.loop-key.key-iterator c.next.new.self c.in-Some.key c.in-Some.node.now c.in-Some.ensures.steps c.loop-key.invariant.2 c.if-node.false)

pub returns-clause-every : goal.returns-clause-every
returns-clause-every c = walk_done c.args.self.now c.loop-key.spots.items c.loop-key.key-iterator c.requires c.in-None.ensures.steps.0 c.loop-key.invariant.2

pub returns-clause-own : goal.returns-clause-own
returns-clause-own c = c.loop-key.invariant.2.own
