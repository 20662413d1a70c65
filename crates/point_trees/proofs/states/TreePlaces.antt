-- Each row of the state of a tree is a point.
use Rattle.std.specs.Prelude.{◌≡◌, ℕ, ℤ, Bool, true, false, cond, ◌&&◌, Option, Some, None, List, [], ◌∷◌, if◌then◌else◌, refl}
use Rattle.std.proofs.Common.{sym, subst}
use Rattle.std.specs.Cmp.{signed_Decides}
use Rattle.std.specs.FinMap as map
use Rattle.std.specs.Ordering.{int_eq}
use Rattle.gx_base.specs.declared.kinds.Kind.TheVariants.{Points}
use Rattle.gx_base.specs.Kinds.{kind_number}
use Rattle.gx_base.specs.PointKind.{IsPlace, HoldsPlaces}
use Rattle.gx_base.specs.States.{State, row_cmp}
use Rattle.gx_base.proofs.CallerLemmas.{same_row, same_row-is, row_at-with}
use Rattle.point_trees.specs.declared.nodes.Node.{Node}
use Rattle.point_trees.specs.declared.tree.Tree.{Tree}
use Rattle.point_trees.specs.Trees.{Nodes, is_point_of, FitsSpot}
use Rattle.point_trees.specs.TreeStates.{node_at, place, row_of_node, tree_rows, tree_state, IsSound}

-- every node's numbers fit
abbrev pub AllFit : Nodes → Type 0
AllFit look = (key : ℕ) (n : Node) → look key ≡ Some n → FitsSpot n.spot

right_true : (b c : Bool) → (b && c) ≡ true → c ≡ true
right_true true c e = e
right_true false c e = absurd (cc)

place_by : (id : ℤ) (n : Node) (b : Bool) → is_point_of id n ≡ b → FitsSpot n.spot → IsPlace (0, id) (if b then Some (place n.spot) else None)
place_by id n true e f =
    let id_fits = subst (λ y. FitsSpot (record n.spot { id = y })) ((signed_Decides n.spot.id id).0 (right_true n.live (int_eq n.spot.id id) e)) f in
    (refl, id_fits.0, f.1, f.2, f.3)
place_by id n false e f = tt

row-IsPlace : (look : Nodes) → AllFit look → (id : ℤ) (key : ℕ) → IsPlace (0, id) (row_of_node id (look key))
row-IsPlace look h id key = of_node (look key) refl
  where
    of_node : (o : Option Node) → look key ≡ o → IsPlace (0, id) (row_of_node id o)
    of_node None g = tt
    of_node (Some n) g = place_by id n (is_point_of id n) refl (h key n g)

put-IsPlace : (key at : ℕ × ℤ) (b : Bool) (row old : Option (List ℤ)) → (b ≡ true → key ≡ at) → IsPlace at row → IsPlace key old → IsPlace key (cond b row old)
put-IsPlace key at true row old e h k = subst (λ q. IsPlace q row) (sym (e refl)) h
put-IsPlace key at false row old e h k = k

rows-IsPlace : (look : Nodes) → AllFit look → (es : List (ℤ × ℕ)) (key : ℕ × ℤ) → IsPlace key (map.get (tree_rows look es) key)
rows-IsPlace look h [] key = subst (IsPlace key) (sym (map.get-empty row_cmp key)) tt
rows-IsPlace look h (e ∷ es) key =
    let s : State = record { kind = kind_number Points; rows = tree_rows look es } in
    subst (IsPlace key) (sym (row_at-with s (0, e.0) (row_of_node e.0 (look e.1)) key))
    (put-IsPlace key (0, e.0) (same_row key (0, e.0)) (row_of_node e.0 (look e.1)) (map.get (tree_rows look es) key) (same_row-is key (0, e.0)) (row-IsPlace look h e.0 e.1) (rows-IsPlace look h es key))

pub tree_state-HoldsPlaces : (tree : Tree) → IsSound tree → HoldsPlaces (tree_state tree)
tree_state-HoldsPlaces tree s key = rows-IsPlace (node_at tree) s.placed.fits tree.numbers.entries key
