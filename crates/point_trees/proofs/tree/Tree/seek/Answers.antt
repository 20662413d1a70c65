use Rattle.std.proofs.Common.{sym, ◌∙◌}
use Rattle.slab.specs.Slab.{slab_len}
use Rattle.point_trees.specs.TreeStates.{node_at, key_of}
use Rattle.point_trees.proofs.trees.Holders.{holds-at}
use Rattle.point_trees.proofs.trees.Seats.{differs, further, nowhere, nobody}
use Rattle.point_trees.proofs.tree.Tree.seek.Goals as goal

pub returns-in-None-clause-found : goal.returns-in-None-clause-found
returns-in-None-clause-found c =
    sym (nobody (node_at c.args.self.now) c.args.self.now.root (slab_len c.args.self.now.nodes) (key_of c.args.self.now) c.requires.placed c.args.spot c.args.self.now.nodes.slots (λ i x e. e) c.in-None.is)

pub returns-then-is_same-clause-found : goal.returns-then-is_same-clause-found
returns-then-is_same-clause-found c =
    sym (holds-at c.args.self.now.nodes.slots c.walk.at c.node_in-node.result c.args.spot c.node_in-node.ensures (c.is_same.ensures.same c.if-is_same.true))

pub returns-in-None-child-clause-found : goal.returns-in-None-child-clause-found
returns-in-None-child-clause-found c =
    sym (nowhere (node_at c.args.self.now) c.args.self.now.root (slab_len c.args.self.now.nodes) (key_of c.args.self.now) c.requires.placed c.args.spot c.args.self.now.nodes.slots (λ i x e. e) c.walk.at c.node_in-node.result c.is_left-left.result
    c.walk.invariant c.node_in-node.ensures (differs c.is_same.result c.if-is_same.false c.is_same.ensures.other) c.is_left-left.ensures (sym c.child.ensures ∙ c.in-None-child.is))

pub walk-preserved : goal.walk-preserved
walk-preserved c =
    further (node_at c.args.self.now) c.args.self.now.root (slab_len c.args.self.now.nodes) (key_of c.args.self.now) c.requires.placed c.args.spot c.walk.at c.in-Some-child.next c.node_in-node.result c.is_left-left.result
    c.walk.invariant c.node_in-node.ensures (differs c.is_same.result c.if-is_same.false c.is_same.ensures.other) c.is_left-left.ensures (sym c.child.ensures ∙ c.in-Some-child.is)
