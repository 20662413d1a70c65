use Rattle.point_trees.proofs.trees.Veils.{buried_from}
use Rattle.point_trees.proofs.tree.Tree.bury_one.Goals as goal

pub returns-clause-sound : goal.returns-clause-sound
returns-clause-sound c =
    (buried_from c.args.self.now c.note_bare.new.self c.args.key c.in_ok-node.node c.node.result c.is_bare_side.result c.is_bare_side-else-not-is_bare_side.result c.requires c.node.ensures c.in_ok-node.was c.if-node.false
    c.is_bare_side.ensures c.is_bare_side-else-not-is_bare_side.ensures c.if-not-is_bare_side.false c.if-not-is_bare_side-2.false c.note_bare.ensures).sound

pub returns-clause-kept : goal.returns-clause-kept
returns-clause-kept c =
    (buried_from c.args.self.now c.note_bare.new.self c.args.key c.in_ok-node.node c.node.result c.is_bare_side.result c.is_bare_side-else-not-is_bare_side.result c.requires c.node.ensures c.in_ok-node.was c.if-node.false
    c.is_bare_side.ensures c.is_bare_side-else-not-is_bare_side.ensures c.if-not-is_bare_side.false c.if-not-is_bare_side-2.false c.note_bare.ensures).kept

pub returns-clause-counts : goal.returns-clause-counts
returns-clause-counts c =
    (buried_from c.args.self.now c.note_bare.new.self c.args.key c.in_ok-node.node c.node.result c.is_bare_side.result c.is_bare_side-else-not-is_bare_side.result c.requires c.node.ensures c.in_ok-node.was c.if-node.false
    c.is_bare_side.ensures c.is_bare_side-else-not-is_bare_side.ensures c.if-not-is_bare_side.false c.if-not-is_bare_side-2.false c.note_bare.ensures).counts
