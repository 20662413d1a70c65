use Rattle.std.proofs.Common.{ℤ, w64, to_z, of_z, sym, ◌∙◌, subst}
use Rattle.std.proofs.lemmas.Int.{to_z-of_z}
use Rattle.point_trees.specs.TreeStates.{node_at, NoPoint}
use Rattle.point_trees.proofs.states.StateRows.{no_key, no_node, no_point}
use Rattle.point_trees.proofs.tree.Tree.owner.Goals as goal

pub returns-in-None-clause-none : goal.returns-in-None-clause-none
returns-in-None-clause-none c =
    subst (λ (y : ℤ). NoPoint c.args.self.now y) (to_z-of_z w64 c.args.id c.ranges.id)
    (no_key (node_at c.args.self.now) c.args.self.now.numbers.entries (to_z w64 (of_z w64 c.args.id)) c.found.result c.found.ensures c.in-None.is)

pub returns-in-None-node-clause-none : goal.returns-in-None-node-clause-none
returns-in-None-node-clause-none c =
    subst (λ (y : ℤ). NoPoint c.args.self.now y) (to_z-of_z w64 c.args.id c.ranges.id)
    (no_node (node_at c.args.self.now) c.args.self.now.numbers.entries (to_z w64 (of_z w64 c.args.id)) c.found.result c.in-Some.key c.node.result c.found.ensures c.in-Some.is c.node.ensures c.in-None-node.is)

pub returns-else-is_point_of-clause-none : goal.returns-else-is_point_of-clause-none
returns-else-is_point_of-clause-none c =
    subst (λ (y : ℤ). NoPoint c.args.self.now y) (to_z-of_z w64 c.args.id c.ranges.id)
    (no_point (node_at c.args.self.now) c.args.self.now.numbers.entries (to_z w64 (of_z w64 c.args.id)) c.found.result c.in-Some.key c.node.result c.in-Some-node.node c.found.ensures c.in-Some.is c.node.ensures c.in-Some-node.is
    (sym c.is_point_of.ensures ∙ c.if-is_point_of.false))
