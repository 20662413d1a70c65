use Rattle.std.proofs.Common.{false, sym, ◌∙◌}
use Rattle.point_trees.proofs.trees.Veils.{clearing_begun, clearing_noted, clearing_further, clearing_done}
use Rattle.point_trees.proofs.tree.Tree.clear_way.Goals as goal

pub walk-init : goal.walk-init
walk-init c = clearing_begun c.args.self.now c.args.spot c.in-Some.root c.requires c.in-Some.is

pub returns-in-None-child-clause-kept : goal.returns-in-None-child-clause-kept
returns-in-None-child-clause-kept c = (clearing_noted c.args.self.now c.walk.self c.unveil.new.self c.args.spot c.walk.at c.node_in-node.result c.walk.invariant c.node_in-node.ensures c.unveil.ensures).0.same.kept

pub returns-in-None-child-clause-clear : goal.returns-in-None-child-clause-clear
returns-in-None-child-clause-clear c =
    let p = clearing_noted c.args.self.now c.walk.self c.unveil.new.self c.args.spot c.walk.at c.node_in-node.result c.walk.invariant c.node_in-node.ensures c.unveil.ensures in
    clearing_done c.args.self.now c.unveil.new.self c.args.spot c.walk.at (record c.node_in-node.result { bare = false }) c.is_left.result p.0 p.1 (c.unveil.ensures.nodes c.node_in-node.result c.node_in-node.ensures).changed c.is_left.ensures
    (sym c.child.ensures ∙ c.in-None-child.is)

pub walk-preserved : goal.walk-preserved
walk-preserved c =
    let p = clearing_noted c.args.self.now c.walk.self c.unveil.new.self c.args.spot c.walk.at c.node_in-node.result c.walk.invariant c.node_in-node.ensures c.unveil.ensures in
    clearing_further c.args.self.now c.unveil.new.self c.args.spot c.walk.at (record c.node_in-node.result { bare = false }) c.is_left.result p.0 p.1 (c.unveil.ensures.nodes c.node_in-node.result c.node_in-node.ensures).changed c.is_left.ensures
    c.in-Some-child.next (sym c.child.ensures ∙ c.in-Some-child.is)

pub returns-in-None-child-clause-sound : goal.returns-in-None-child-clause-sound
returns-in-None-child-clause-sound c = (clearing_noted c.args.self.now c.walk.self c.unveil.new.self c.args.spot c.walk.at c.node_in-node.result c.walk.invariant c.node_in-node.ensures c.unveil.ensures).0.same.sound

pub returns-in-None-child-clause-counts : goal.returns-in-None-child-clause-counts
returns-in-None-child-clause-counts c = (clearing_noted c.args.self.now c.walk.self c.unveil.new.self c.args.spot c.walk.at c.node_in-node.result c.walk.invariant c.node_in-node.ensures c.unveil.ensures).0.same.counts
