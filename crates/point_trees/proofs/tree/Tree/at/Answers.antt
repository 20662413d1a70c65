use Rattle.std.proofs.Common.{◌≡◌, Option, None, Some, ℤ, w64, to_z, of_z, subst}
use Rattle.std.proofs.lemmas.Int.{to_z-of_z}
use Rattle.gx_base.specs.declared.calls.Spot.{Spot}
use Rattle.gx_base.specs.PointKind.{spot_at}
use Rattle.point_trees.specs.TreeStates.{node_at, tree_state}
use Rattle.point_trees.proofs.states.StateRows.{owner_spot, no_spot}
use Rattle.point_trees.proofs.tree.Tree.at.Goals as goal

pub returns-in-None : goal.returns-in-None
returns-in-None c =
    subst (λ (y : ℤ). ◌≡◌ {A = Option Spot} None (spot_at (tree_state c.args.self.now) y)) (to_z-of_z w64 c.args.id c.ranges.id) (no_spot (tree_state c.args.self.now) (to_z w64 (of_z w64 c.args.id)) c.in-None.ensures.none)

pub returns-in-Some : goal.returns-in-Some
returns-in-Some c =
    subst (λ (y : ℤ). Some c.node_in.result.spot ≡ spot_at (tree_state c.args.self.now) y) (to_z-of_z w64 c.args.id c.ranges.id)
    (owner_spot (node_at c.args.self.now) c.args.self.now.numbers.entries (to_z w64 (of_z w64 c.args.id)) c.in-Some.key c.node_in.result c.in-Some.ensures.some c.node_in.ensures)
