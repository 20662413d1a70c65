-- A tree that is made anew has the points that were put in.
use Rattle.std.specs.Prelude.{◌≡◌, ℕ, zero, suc, ◌+◌, ◌<◌, ◌≤◌, ℤ, Bool, true, false, cond, Option, Some, None, List, [], ◌∷◌, ◌++◌, length, is_some, count_by, slice_index_or, ◌↔◌, if◌then◌else◌, Result, Ok, Err, OnOk, IfOk, refl, ◌⊎◌}
use Rattle.std.proofs.Common.{sym, ◌∙◌, ap, subst, arith, inl, inr, length-append}
use Rattle.std.specs.FinMap as map
use Rattle.std.specs.List.{Contains}
use Rattle.std.specs.List.Sorted.{IsPermutation}
use Rattle.std.proofs.lemmas.List.Sorted.{Contains-permutation, IsPermutation-sym, length_permutation}
use Rattle.std.proofs.lemmas.List.Elements.{Contains-append_left, Contains-append_right, Contains-append_cases}
use Rattle.std.specs.Ordering.{int_eq}
use Rattle.slab.specs.Slab.{slab_len}
use Rattle.slab.proofs.SlabLemmas.{Contains-cons, Contains-cons_cases}
use Rattle.gx_base.specs.declared.calls.Spot.{Spot}
use Rattle.gx_base.specs.States.{row_cmp, row_at, with_row}
use Rattle.gx_base.specs.PointKind.{spot_of, spot_at}
use Rattle.point_trees.specs.declared.nodes.Node.{Node}
use Rattle.point_trees.specs.declared.tree.Tree.{Tree}
use Rattle.point_trees.proofs.searches.NearestLaws.{spot_at-with}
use Rattle.point_trees.specs.Trees.{Nodes, is_point_of}
use Rattle.point_trees.specs.TreeStates.{node_at, key_of, place, row_of_node, tree_rows, tree_state, dead_nodes, count_of, IsSound, IsBlank, NoPoint}
use Rattle.point_trees.specs.Rebuilding.{IsPointOf, HasPoint, Gathers, IsMadeOf, IsRebuilt, IsBalancedTree}
use Rattle.point_trees.proofs.states.Basics.{some_none, some_is, same_int, int_eq-of}
use Rattle.point_trees.proofs.states.StateRows.{with_rows, row_found, get-rows_of, rows_of-same}

-- a row is the place of the point
abbrev pub place_row : Option Spot → Option (List ℤ)
place_row None = None
place_row (Some r) = Some (place r)

row_by : (id : ℤ) (n : Node) (b : Bool) → (if b then Some (place n.spot) else None) ≡ place_row (spot_of id (if b then Some (place n.spot) else None))
row_by id n true = refl
row_by id n false = refl

row_of : (look : Nodes) (id : ℤ) (found : Option ℕ) → row_found look id found ≡ place_row (spot_of id (row_found look id found))
row_of look id None = refl
row_of look id (Some key) = of_node (look key)
  where
    of_node : (o : Option Node) → row_of_node id o ≡ place_row (spot_of id (row_of_node id o))
    of_node None = refl
    of_node (Some n) = row_by id n (is_point_of id n)

pub row-spot : (tree : Tree) (id : ℤ) → row_at (tree_state tree) (0, id) ≡ place_row (spot_at (tree_state tree) id)
row-spot tree id =
    get-rows_of (node_at tree) tree.numbers.entries id ∙ row_of (node_at tree) id (key_of tree id) ∙ sym (ap (λ o. place_row (spot_of id o)) (get-rows_of (node_at tree) tree.numbers.entries id))

pub no_spot : (tree : Tree) (id : ℤ) (found : Option Spot) → found ≡ spot_at (tree_state tree) id → found ≡ None → NoPoint tree id
no_spot tree id found e f = row-spot tree id ∙ ap place_row (sym e ∙ f)

-- a list of one
pub contains_one : (s r : Spot) → Contains (s ∷ []) r → s ≡ r
contains_one s r (zero, b, e) = e
contains_one s r (suc k, b, e) = absurd (omega arith)

pub one_of : (s : Spot) → Contains (s ∷ []) s
one_of s = (zero, omega arith, refl)

-- one point more
pub gathers_one : (old new : Tree) (spot : Spot) → tree_state new ≡ with_row (tree_state old) (0, spot.id) (Some (place spot)) → dead_nodes new ≤ dead_nodes old → Gathers old new (spot ∷ [])
gathers_one old new spot e d = record { none_else = λ r h. by_id r (int_eq r.id spot.id) refl h; stay = λ id h. stays id (int_eq id spot.id) refl h; all = λ r h. here r (contains_one spot r h); dead = d }
  where
    spot_now : (id : ℤ) → spot_at (tree_state new) id ≡ cond (int_eq id spot.id) (spot_of id (Some (place spot))) (spot_at (tree_state old) id)
    spot_now id = ap (λ s. spot_at s id) e ∙ spot_at-with (tree_state old) spot.id (Some (place spot)) id

    by_id : (r : Spot) (b : Bool) → int_eq r.id spot.id ≡ b → IsPointOf new r → IsPointOf old r ⊎ Contains (spot ∷ []) r
    by_id r true t h =
        let same : spot ≡ r = ap (λ y. record { id = y; x = spot.x; y = spot.y; z = spot.z }) (sym (same_int r.id spot.id t))
        ∙ some_is (record { id = r.id; x = spot.x; y = spot.y; z = spot.z }) r (sym (spot_now r.id ∙ ap (λ b. cond b (spot_of r.id (Some (place spot))) (spot_at (tree_state old) r.id)) t) ∙ h) in
        inr (subst (Contains (spot ∷ [])) same (one_of spot))
    by_id r false t h = inl (sym (spot_now r.id ∙ ap (λ b. cond b (spot_of r.id (Some (place spot))) (spot_at (tree_state old) r.id)) t) ∙ h)

    stays : (id : ℤ) (b : Bool) → int_eq id spot.id ≡ b → HasPoint old id → HasPoint new id
    stays id true t h = ap is_some (spot_now id ∙ ap (λ b. cond b (spot_of id (Some (place spot))) (spot_at (tree_state old) id)) t)
    stays id false t h = ap is_some (spot_now id ∙ ap (λ b. cond b (spot_of id (Some (place spot))) (spot_at (tree_state old) id)) t) ∙ h

    here : (r : Spot) → spot ≡ r → HasPoint new r.id
    here r same = ap is_some (spot_now r.id ∙ ap (λ b. cond b (spot_of r.id (Some (place spot))) (spot_at (tree_state old) r.id)) (int_eq-of r.id spot.id (ap (λ (s : Spot). s.id) (sym same))))

-- the parts of a list, one after another
pub gathers_parts : (a b c d : Tree) (spots front back : List Spot) (middle : Spot) → IsPermutation spots (front ++ middle ∷ back) → Gathers a b (middle ∷ []) → Gathers b c front → Gathers c d back → Gathers a d spots
gathers_parts a b c d spots front back middle p f g h = record { none_else = from_back; stay = λ id k. h.stay id (g.stay id (f.stay id k)); all = λ r k. everywhere r (Contains-append_cases front (middle ∷ back) r (Contains-permutation spots (front ++ middle ∷ back) r p k)); dead = less }
  where
    in_spots : (r : Spot) → Contains (front ++ middle ∷ back) r → Contains spots r
    in_spots r k = Contains-permutation (front ++ middle ∷ back) spots r (IsPermutation-sym spots (front ++ middle ∷ back) p) k

    from_first : (r : Spot) → IsPointOf b r → IsPointOf a r ⊎ Contains spots r
    from_first r k = by_first (f.none_else r k)
      where
        by_first : IsPointOf a r ⊎ Contains (middle ∷ []) r → IsPointOf a r ⊎ Contains spots r
        by_first (inl k) = inl k
        by_first (inr k) = inr (in_spots r (Contains-append_right front (middle ∷ back) r (Contains-append_left (middle ∷ []) back r k)))

    from_front : (r : Spot) → IsPointOf c r → IsPointOf a r ⊎ Contains spots r
    from_front r k = by_front (g.none_else r k)
      where
        by_front : IsPointOf b r ⊎ Contains front r → IsPointOf a r ⊎ Contains spots r
        by_front (inl k) = from_first r k
        by_front (inr k) = inr (in_spots r (Contains-append_left front (middle ∷ back) r k))

    from_back : (r : Spot) → IsPointOf d r → IsPointOf a r ⊎ Contains spots r
    from_back r k = by_back (h.none_else r k)
      where
        by_back : IsPointOf c r ⊎ Contains back r → IsPointOf a r ⊎ Contains spots r
        by_back (inl k) = from_front r k
        by_back (inr k) = inr (in_spots r (Contains-append_right front (middle ∷ back) r (Contains-cons middle r back k)))

    at_rest : (r : Spot) → (middle ≡ r) ⊎ Contains back r → HasPoint d r.id
    at_rest r (inl e) = h.stay r.id (g.stay r.id (f.all r (subst (Contains (middle ∷ [])) e (one_of middle))))
    at_rest r (inr k) = h.all r k

    everywhere : (r : Spot) → Contains front r ⊎ Contains (middle ∷ back) r → HasPoint d r.id
    everywhere r (inl k) = h.stay r.id (g.all r k)
    everywhere r (inr k) = at_rest r (Contains-cons_cases middle r back k)

    less : dead_nodes d ≤ dead_nodes a
    less = let x : dead_nodes b ≤ dead_nodes a = f.dead in let y : dead_nodes c ≤ dead_nodes b = g.dead in let z : dead_nodes d ≤ dead_nodes c = h.dead in omega arith

-- a tree without nodes has no points
pub blank_row : (tree : Tree) (id : ℤ) → IsBlank tree → row_at (tree_state tree) (0, id) ≡ None
blank_row tree id b = ap (λ es. map.get (tree_rows (node_at tree) es) (0, id)) b.entries ∙ get-rows_of (node_at tree) [] id

pub blank_spot : (tree : Tree) (id : ℤ) → IsBlank tree → spot_at (tree_state tree) id ≡ None
blank_spot tree id b = ap (spot_of id) (blank_row tree id b)

-- the same points are the same state
same_state : (old new : Tree) → ((id : ℤ) → spot_at (tree_state new) id ≡ spot_at (tree_state old) id) → tree_state new ≡ tree_state old
same_state old new h = ap with_rows (rows_of-same (node_at old) (node_at new) old.numbers.entries new.numbers.entries (λ id.
    sym (get-rows_of (node_at new) new.numbers.entries id) ∙ row-spot new id ∙ ap place_row (h id) ∙ sym (row-spot old id) ∙ get-rows_of (node_at old) old.numbers.entries id))

pub spot_id : (tree : Tree) (id : ℤ) (r : Spot) → spot_at (tree_state tree) id ≡ Some r → r.id ≡ id
spot_id tree id r e = by_row (row_at (tree_state tree) (0, id)) e
  where
    by_row : (row : Option (List ℤ)) → spot_of id row ≡ Some r → r.id ≡ id
    by_row None e = absurd (some_none r e)
    by_row (Some []) e = absurd (some_none r e)
    by_row (Some (x ∷ [])) e = absurd (some_none r e)
    by_row (Some (x ∷ y ∷ [])) e = absurd (some_none r e)
    by_row (Some (x ∷ y ∷ z ∷ [])) e = sym (ap (λ (t : Spot). t.id) (some_is (record { id = id; x = x; y = y; z = z }) r e))
    by_row (Some (x ∷ y ∷ z ∷ w ∷ ws)) e = absurd (some_none r e)

module _ (old new : Tree) (spots : List Spot) (only : (r : Spot) → Contains spots r → IsPointOf old r) (every : (r : Spot) → IsPointOf old r → Contains spots r) (m : IsMadeOf spots new) where
  -- a point of the new tree is one of the old
  was : (r : Spot) → IsPointOf new r → IsPointOf old r
  was r h = only r (m.none_else r h)

  same_by : (id : ℤ) (o p : Option Spot) → spot_at (tree_state new) id ≡ o → spot_at (tree_state old) id ≡ p → o ≡ p
  same_by id None None e f = refl
  same_by id (Some r) p e f =
      let i : r.id ≡ id = spot_id new id r e in
      sym (was r (ap (spot_at (tree_state new)) i ∙ e)) ∙ ap (spot_at (tree_state old)) i ∙ f
  same_by id None (Some r) e f =
      let i : r.id ≡ id = spot_id old id r f in
      let h : HasPoint new r.id = m.all r (every r (ap (spot_at (tree_state old)) i ∙ f)) in
      absurd (let k : is_some {T = Spot} None ≡ true = sym (ap is_some (ap (spot_at (tree_state new)) i ∙ e)) ∙ h in cc)

  pub rebuilt_state : tree_state new ≡ tree_state old
  rebuilt_state = same_state old new (λ id. same_by id (spot_at (tree_state new) id) (spot_at (tree_state old) id) refl refl)

pub blank_sound : (tree : Tree) → IsBlank tree → IsSound tree
blank_sound tree b = record {
  placed = record {
    rooted = λ r e. absurd (some_none r (sym b.root ∙ e));
    placed = λ i n e. absurd (some_none n (sym (nothing i) ∙ e));
    nested = λ i c n l e k. absurd (some_none n (sym (nothing i) ∙ e));
    shallow = λ i n e. absurd (some_none n (sym (nothing i) ∙ e));
    numbered = λ i n e. absurd (some_none n (sym (nothing i) ∙ e));
    owned = λ i n e l. absurd (some_none n (sym (nothing i) ∙ e));
    fits = λ i n e. absurd (some_none n (sym (nothing i) ∙ e));
    passable = λ i n e l. absurd (some_none n (sym (nothing i) ∙ e));
  };
  counted = b.live ∙ sym (ap (λ es. count_of (with_rows (tree_rows (node_at tree) es))) b.entries ∙ map.len-empty row_cmp (List ℤ));
}
  where
    nothing : (i : ℕ) → node_at tree i ≡ None
    nothing i = ap (λ slots. slice_index_or slots i None) b.slots

pub front_less : (spots front back : List Spot) (middle : Spot) → IsPermutation spots (front ++ middle ∷ back) → length front < length spots
front_less spots front back middle p =
    let e : length (front ++ middle ∷ back) ≡ length spots = length_permutation spots (front ++ middle ∷ back) p in
    let f : length (front ++ middle ∷ back) ≡ length front + length (middle ∷ back) = length-append front (middle ∷ back) in
    omega arith

pub back_less : (spots front back : List Spot) (middle : Spot) → IsPermutation spots (front ++ middle ∷ back) → length back < length spots
back_less spots front back middle p =
    let e : length (front ++ middle ∷ back) ≡ length spots = length_permutation spots (front ++ middle ∷ back) p in
    let f : length (front ++ middle ∷ back) ≡ length front + length (middle ∷ back) = length-append front (middle ∷ back) in
    omega arith

pub gathers_parts_ok : {T E : Type 0} (result : Result T E) (a b c d : Tree) (spots front back : List Spot) (middle : Spot) → IsPermutation spots (front ++ middle ∷ back) → Gathers a b (middle ∷ []) → Gathers b c front → OnOk result (Gathers c d back)
    → OnOk result (Gathers a d spots)
gathers_parts_ok (Ok x) a b c d spots front back middle p f g h = gathers_parts a b c d spots front back middle p f g h
gathers_parts_ok (Err x) a b c d spots front back middle p f g h = tt

blank_dead : (tree : Tree) → IsBlank tree → dead_nodes tree ≡ 0
blank_dead tree b = let e : slab_len tree.nodes ≡ 0 = ap (count_by (is_some {T = Node})) b.slots in omega arith

pub made_from : (blank mid new : Tree) (spots : List Spot) → IsBlank blank → IsSound mid → Gathers blank mid spots → IsBalancedTree mid → new ≡ record mid { grown = 0 } → IsMadeOf spots new
made_from blank mid new spots b s g l f = subst (IsMadeOf spots) (sym f) (record {
  sound = record { placed = s.placed; counted = s.counted };
  none_else = λ r h. from_blank r (g.none_else r h);
  all = g.all;
  none_dead = let d : dead_nodes mid ≤ dead_nodes blank = g.dead in let z : dead_nodes blank ≡ 0 = blank_dead blank b in omega arith;
  none_grown = refl;
  balanced = l;
})
  where
    from_blank : (r : Spot) → IsPointOf blank r ⊎ Contains spots r → Contains spots r
    from_blank r (inl k) = absurd (some_none r (sym (blank_spot blank r.id b) ∙ k))
    from_blank r (inr k) = k

pub made_from_ok : {E : Type 0} (result : Result Tree E) (spots : List Spot) (old : Tree) → IfOk result (IsMadeOf spots) → ((r : Spot) → Contains spots r ↔ IsPointOf old r) → IfOk result (IsRebuilt old)
made_from_ok (Ok new) spots old m p = record {
  sound = m.sound;
  state = rebuilt_state old new spots (λ r h. (p r).0 h) (λ r h. (p r).1 h) m;
  none_dead = m.none_dead;
  none_grown = m.none_grown;
  balanced = m.balanced;
}
made_from_ok (Err e) spots old m p = tt

pub blank_state : (tree : Tree) → IsBlank tree → tree_state tree ≡ with_rows map.empty
blank_state tree b = ap (λ es. with_rows (tree_rows (node_at tree) es)) b.entries
