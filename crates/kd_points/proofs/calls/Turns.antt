-- What calls of points ask of a row.
use Rattle.std.specs.Prelude.{◌≡◌, ℤ, pos, Bool, true, false, ◌&&◌, Option, Some, None, List, if◌then◌else◌, IsTrue, refl}
use Rattle.std.proofs.Common.{sym, ◌∙◌, ap, subst}
use Rattle.std.specs.Ordering.{int_eq}
use Rattle.gx_base.specs.declared.calls.Call.{Call}
use Rattle.gx_base.specs.declared.calls.Reply.{Reply}
use Rattle.gx_base.specs.declared.calls.Spot.{Spot}
use Rattle.gx_base.specs.PointKind.{spot_of, spot_at, point_row_of}
use Rattle.gx_base.specs.RowActions.{turns, same_content}
use Rattle.gx_base.specs.Spots.{spot_of_call}
use Rattle.gx_base.proofs.CallerLemmas.{same_content-is}
use Rattle.gx_base.specs.States.{row_at}
use Rattle.point_trees.specs.declared.tree.Tree.{Tree}
use Rattle.kd_points.specs.PointsState.{changed_room}
use Rattle.point_trees.specs.TreeStates.{place, tree_state, has_node, KeepsNodes}
use Rattle.point_trees.proofs.CallerLemmas.{held_point, place_row, row-spot}

and_true : (b : Bool) → b ≡ (b && true)
and_true true = refl
and_true false = refl

and_false : (b : Bool) → false ≡ (b && false)
and_false true = refl
and_false false = refl

row_is : (tree : Tree) (id given : ℤ) (found o : Option Spot) → given ≡ id → found ≡ spot_at (tree_state tree) given → found ≡ o → row_at (tree_state tree) (0, id) ≡ place_row o
row_is tree id given found o e f g = row-spot tree id ∙ ap (λ y. place_row (spot_at (tree_state tree) y)) (sym e) ∙ ap place_row (sym f ∙ g)

-- an add finds no row
pub free_row : (tree : Tree) (id given : ℤ) (found : Option Spot) (allowed : Bool) → given ≡ id → found ≡ spot_at (tree_state tree) given → found ≡ None → allowed ≡ turns allowed None (tree_state tree) id
free_row tree id given found allowed e f g = and_true allowed ∙ sym (ap (λ o. allowed && same_content o None) (row_is tree id given found None e f g))

pub taken_row : (tree : Tree) (id given : ℤ) (found : Option Spot) (r : Spot) (allowed : Bool) → given ≡ id → found ≡ spot_at (tree_state tree) given → found ≡ Some r → false ≡ turns allowed None (tree_state tree) id
taken_row tree id given found r allowed e f g = and_false allowed ∙ sym (ap (λ o. allowed && same_content o None) (row_is tree id given found (Some r) e f g))

-- a remove finds its place, or it doesn't
pub missing_row : (tree : Tree) (id given : ℤ) (found : Option Spot) (wanted : List ℤ) → given ≡ id → found ≡ spot_at (tree_state tree) given → found ≡ None → false ≡ turns true (Some wanted) (tree_state tree) id
missing_row tree id given found wanted e f g = sym (ap (λ o. same_content o (Some wanted)) (row_is tree id given found None e f g))

pub found_row : (tree : Tree) (id given : ℤ) (found : Option Spot) (r : Spot) (wanted : List ℤ) → given ≡ id → found ≡ spot_at (tree_state tree) given → found ≡ Some r
    → same_content (Some (place r)) (Some wanted) ≡ turns true (Some wanted) (tree_state tree) id
found_row tree id given found r wanted e f g = sym (ap (λ o. same_content o (Some wanted)) (row_is tree id given found (Some r) e f g))

-- where a remove finds its place, the tree has a node for the spot
pub held_node : (tree : Tree) (c : Call) → turns true (point_row_of c) (tree_state tree) c.a ≡ true → has_node tree (spot_of_call c) ≡ true
held_node tree c t =
    let row : row_at (tree_state tree) (0, c.a) ≡ point_row_of c = same_content-is (row_at (tree_state tree) (0, c.a)) (point_row_of c) t in
    held_point tree c.a (spot_of_call c) (ap (spot_of c.a) row)

-- so it can be undone in that node
pub removed_room : (old new : Tree) (c : Call) (holds : Bool) (reply : Reply) → KeepsNodes old new → holds ≡ turns true (point_row_of c) (tree_state old) c.a → holds ≡ true → IsTrue (changed_room (has_node new (spot_of_call c)) reply)
removed_room old new c holds reply k e t =
    subst (λ b. IsTrue (changed_room b reply)) (sym (k (spot_of_call c) (held_node old c (sym e ∙ t)))) (by_reply (int_eq reply.p (pos 1)))
  where
    by_reply : (b : Bool) → IsTrue (if b then true else true)
    by_reply true = refl
    by_reply false = refl
