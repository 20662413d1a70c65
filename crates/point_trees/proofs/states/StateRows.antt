-- The rows of the state of a tree: what stands in each, and what a change of one id does to them.
use Rattle.std.specs.Prelude.{◌≡◌, ℕ, zero, suc, ℤ, Bool, true, false, cond, ◌&&◌, Option, Some, None, List, [], ◌∷◌, if◌then◌else◌, refl}
use Rattle.std.proofs.Common.{sym, ◌∙◌, ap}
use Rattle.std.specs.FinMap as map
use Rattle.std.specs.Map.{lookup}
use Rattle.std.specs.Ordering.{int_eq}
use Rattle.gx_base.specs.declared.calls.Spot.{Spot}
use Rattle.gx_base.specs.declared.kinds.Kind.TheVariants.{Points}
use Rattle.gx_base.specs.Kinds.{kind_number}
use Rattle.gx_base.specs.PointKind.{spot_of, spot_at}
use Rattle.gx_base.specs.States.{State, row_cmp, rows_put, row_at, with_row}
use Rattle.gx_base.proofs.CallerLemmas.{row_cmp_total, row_cmp-IsAntisymmetric, same_row, same_row-is, same_row-sort, row_at-with}
use Rattle.point_trees.specs.declared.nodes.Node.{Node}
use Rattle.point_trees.specs.declared.tree.Tree.{Tree}
use Rattle.point_trees.specs.Trees.{Nodes, is_point_of, IsOwner}
use Rattle.point_trees.specs.TreeStates.{place, row_of_node, tree_rows, node_at, tree_state}
use Rattle.point_trees.proofs.states.Basics.{same_int, int_eq-of, false_of, some_is}

-- points with these rows
abbrev pub with_rows : map.FinMap row_cmp (List ℤ) → State
with_rows rows = record { kind = kind_number Points; rows = rows }

-- the row of an id, where this key stands for it
abbrev pub row_found : Nodes → ℤ → Option ℕ → Option (List ℤ)
row_found look id None = None
row_found look id (Some key) = row_of_node id (look key)

here_by : (look : Nodes) (id x : ℤ) (key : ℕ) (b c : Bool) (p : Option (List ℤ)) (o : Option ℕ) → b ≡ c → (c ≡ true → id ≡ x) → p ≡ row_found look id o
    → cond b (row_of_node x (look key)) p ≡ row_found look id (cond c (Some key) o)
here_by look id x key true true p o e h f = ap (λ y. row_of_node y (look key)) (sym (h refl))
here_by look id x key true false p o e h f = absurd (cc)
here_by look id x key false true p o e h f = absurd (cc)
here_by look id x key false false p o e h f = f

pub get-rows_of : (look : Nodes) (es : List (ℤ × ℕ)) (id : ℤ) → map.get (tree_rows look es) (0, id) ≡ row_found look id (lookup (int_eq id) es)
get-rows_of look [] id = map.get-empty row_cmp (0, id)
get-rows_of look (e ∷ es) id =
    row_at-with (with_rows (tree_rows look es)) (0, e.0) (row_of_node e.0 (look e.1)) (0, id)
    ∙ here_by look id e.0 e.1 (same_row (0, id) (0, e.0)) (int_eq id e.0) (map.get (tree_rows look es) (0, id)) (lookup (int_eq id) es) (same_row-sort 0 id e.0) (same_int id e.0) (get-rows_of look es id)

-- rows of two sorts differ
apart_sorts : (i : ℕ) (k x : ℤ) → (i ≡ 0 → ⊥) → same_row (i, k) (0, x) ≡ false
apart_sorts i k x n = false_of (same_row (i, k) (0, x)) (λ t. n (ap (λ (q : ℕ × ℤ). q.0) (same_row-is (i, k) (0, x) t)))

pub get-rows_of-other : (look : Nodes) (es : List (ℤ × ℕ)) (i : ℕ) (k : ℤ) → (i ≡ 0 → ⊥) → map.get (tree_rows look es) (i, k) ≡ None
get-rows_of-other look [] i k n = map.get-empty row_cmp (i, k)
get-rows_of-other look (e ∷ es) i k n =
    row_at-with (with_rows (tree_rows look es)) (0, e.0) (row_of_node e.0 (look e.1)) (i, k)
    ∙ ap (λ b. cond b (row_of_node e.0 (look e.1)) (map.get (tree_rows look es) (i, k))) (apart_sorts i k e.0 n) ∙ get-rows_of-other look es i k n

pub other_rows : (tree : Tree) (i : ℕ) (k : ℤ) → (i ≡ 0 → ⊥) → row_at (tree_state tree) (i, k) ≡ None
other_rows tree i k n = get-rows_of-other (node_at tree) tree.numbers.entries i k n

-- rows with these look-ups
pub by_rows : (look : Nodes) (es : List (ℤ × ℕ)) (other : map.FinMap row_cmp (List ℤ)) → ((id : ℤ) → map.get other (0, id) ≡ row_found look id (lookup (int_eq id) es))
    → ((i : ℕ) (k : ℤ) → (i ≡ 0 → ⊥) → map.get other (i, k) ≡ None) → tree_rows look es ≡ other
by_rows look es other here there = map.same_map row_cmp_total row_cmp-IsAntisymmetric _ _ (λ q. at q.0 q.1)
  where
    at : (i : ℕ) (k : ℤ) → map.get (tree_rows look es) (i, k) ≡ map.get other (i, k)
    at zero k = get-rows_of look es k ∙ sym (here k)
    at (suc i) k = get-rows_of-other look es (suc i) k (λ e. absurd (cc)) ∙ sym (there (suc i) k (λ e. absurd (cc)))

pub rows_of-same : (look next : Nodes) (es fs : List (ℤ × ℕ)) → ((id : ℤ) → row_found next id (lookup (int_eq id) fs) ≡ row_found look id (lookup (int_eq id) es)) → tree_rows next fs ≡ tree_rows look es
rows_of-same look next es fs h = by_rows next fs (tree_rows look es) (λ id. get-rows_of look es id ∙ sym (h id)) (λ i k n. get-rows_of-other look es i k n)

-- a change of what stands for one id
pub record Settles (look next : Nodes) (numbers after : ℤ → Option ℕ) (id : ℤ) (row : Option (List ℤ)) : Type 0 where
  pub here : row_found next id (after id) ≡ row
  pub numbers_stay : (q : ℤ) → int_eq q id ≡ false → after q ≡ numbers q
  pub nodes_stay : (q : ℤ) (key : ℕ) → int_eq q id ≡ false → row_of_node q (next key) ≡ row_of_node q (look key)

found_stays : (look next : Nodes) (q : ℤ) (o : Option ℕ) → ((key : ℕ) → row_of_node q (next key) ≡ row_of_node q (look key)) → row_found next q o ≡ row_found look q o
found_stays look next q None h = refl
found_stays look next q (Some key) h = h key

settled_by : (look next : Nodes) (numbers after : ℤ → Option ℕ) (id : ℤ) (row : Option (List ℤ)) → Settles look next numbers after id row → (q : ℤ) (b : Bool) → int_eq q id ≡ b
    → row_found next q (after q) ≡ cond b row (row_found look q (numbers q))
settled_by look next numbers after id row s q true e = ap (λ y. row_found next y (after y)) (same_int q id e) ∙ s.here
settled_by look next numbers after id row s q false e = ap (row_found next q) (s.numbers_stay q e) ∙ found_stays look next q (numbers q) (λ key. s.nodes_stay q key e)

pub rows_of-with : (look next : Nodes) (es fs : List (ℤ × ℕ)) (id : ℤ) (row : Option (List ℤ)) → Settles look next (λ q. lookup (int_eq q) es) (λ q. lookup (int_eq q) fs) id row
    → tree_rows next fs ≡ rows_put (tree_rows look es) (0, id) row
rows_of-with look next es fs id row s = by_rows next fs (rows_put (tree_rows look es) (0, id) row)
    (λ q. row_at-with (with_rows (tree_rows look es)) (0, id) row (0, q) ∙ ap (λ b. cond b row (map.get (tree_rows look es) (0, q))) (same_row-sort 0 q id)
    ∙ ap (cond (int_eq q id) row) (get-rows_of look es q) ∙ sym (settled_by look next _ _ id row s q (int_eq q id) refl))
    (λ i q n. row_at-with (with_rows (tree_rows look es)) (0, id) row (i, q) ∙ ap (λ b. cond b row (map.get (tree_rows look es) (i, q))) (apart_sorts i q id n) ∙ get-rows_of-other look es i q n)

-- the row of a node
pub row_of_live : (id : ℤ) (n : Node) → n.live ≡ true → n.spot.id ≡ id → row_of_node id (Some n) ≡ Some (place n.spot)
row_of_live id n l e = ap (λ b. if b then Some (place n.spot) else None) (ap (λ b. b && int_eq n.spot.id id) l ∙ int_eq-of n.spot.id id e)

pub row_of_dead : (id : ℤ) (n : Node) → n.live ≡ false → row_of_node id (Some n) ≡ None
row_of_dead id n l = ap (λ b. if b && int_eq n.spot.id id then Some (place n.spot) else None) l

none_by : (b c : Bool) (xs : List ℤ) → c ≡ false → (if b && c then Some xs else None) ≡ None
none_by true c xs e = ap (λ b. if b then Some xs else None) e
none_by false c xs e = refl

pub row_of_another : (id : ℤ) (n : Node) → int_eq n.spot.id id ≡ false → row_of_node id (Some n) ≡ None
row_of_another id n e = none_by n.live (int_eq n.spot.id id) (place n.spot) e

-- nodes that are live alike have the same rows
pub row_of_alike : (id : ℤ) (n m : Node) → m.live ≡ n.live → m.spot ≡ n.spot → row_of_node id (Some m) ≡ row_of_node id (Some n)
row_of_alike id n m l s = λ i. if l i && int_eq (s i).id id then Some (place (s i)) else None

-- what a look-up by the number tells of the row
pub no_key : (look : Nodes) (es : List (ℤ × ℕ)) (id : ℤ) (found : Option ℕ) → found ≡ lookup (int_eq id) es → found ≡ None → row_at (with_rows (tree_rows look es)) (0, id) ≡ None
no_key look es id found f e = get-rows_of look es id ∙ ap (row_found look id) (sym f ∙ e)

pub no_node : (look : Nodes) (es : List (ℤ × ℕ)) (id : ℤ) (found : Option ℕ) (key : ℕ) (node : Option Node) → found ≡ lookup (int_eq id) es → found ≡ Some key → node ≡ look key → node ≡ None
    → row_at (with_rows (tree_rows look es)) (0, id) ≡ None
no_node look es id found key held f e g h = get-rows_of look es id ∙ ap (row_found look id) (sym f ∙ e) ∙ ap (row_of_node id) (sym g ∙ h)

pub no_point : (look : Nodes) (es : List (ℤ × ℕ)) (id : ℤ) (found : Option ℕ) (key : ℕ) (node : Option Node) (n : Node) → found ≡ lookup (int_eq id) es → found ≡ Some key → node ≡ look key → node ≡ Some n
    → is_point_of id n ≡ false → row_at (with_rows (tree_rows look es)) (0, id) ≡ None
no_point look es id found key held n f e g h p =
    get-rows_of look es id ∙ ap (row_found look id) (sym f ∙ e) ∙ ap (row_of_node id) (sym g ∙ h) ∙ ap (λ b. if b then Some (place n.spot) else None) p

-- the row of an owner
pub owner_row : (look : Nodes) (es : List (ℤ × ℕ)) (id : ℤ) (key : ℕ) (o : IsOwner look (λ q. lookup (int_eq q) es) id key) → row_at (with_rows (tree_rows look es)) (0, id) ≡ Some (place o.node.spot)
owner_row look es id key o = get-rows_of look es id ∙ ap (row_found look id) o.numbered ∙ ap (row_of_node id) o.there ∙ row_of_live id o.node o.live o.named

pub owner_spot : (look : Nodes) (es : List (ℤ × ℕ)) (id : ℤ) (key : ℕ) (n : Node) → IsOwner look (λ q. lookup (int_eq q) es) id key → look key ≡ Some n → Some n.spot ≡ spot_at (with_rows (tree_rows look es)) id
owner_spot look es id key n o g =
    let same : o.node ≡ n = some_is o.node n (sym o.there ∙ g) in
    ap (λ (m : Node). Some m.spot) (sym same) ∙ ap (λ y. Some (record { id = y; x = o.node.spot.x; y = o.node.spot.y; z = o.node.spot.z })) o.named ∙ sym (ap (spot_of id) (owner_row look es id key o))

pub no_spot : (s : State) (id : ℤ) → row_at s (0, id) ≡ None → ◌≡◌ {A = Option Spot} None (spot_at s id)
no_spot s id e = sym (ap (spot_of id) e)

-- the later of two changes of one row stands
twice : {A : Type 0} (b : Bool) (x y z : A) → cond b y (cond b x z) ≡ cond b y z
twice true x y z = refl
twice false x y z = refl

pub with_row-twice : (s : State) (key : ℕ × ℤ) (x y : Option (List ℤ)) → with_row (with_row s key x) key y ≡ with_row s key y
with_row-twice s key x y = ap (λ (rows : map.FinMap row_cmp (List ℤ)). record { kind = s.kind; rows = rows }) (map.same_map row_cmp_total row_cmp-IsAntisymmetric _ _ (λ q.
    row_at-with (with_row s key x) key y q ∙ ap (cond (same_row q key) y) (row_at-with s key x q) ∙ twice (same_row q key) x y (row_at s q) ∙ sym (row_at-with s key y q)))
