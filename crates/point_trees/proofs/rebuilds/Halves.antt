-- Spots that are halved around one of them: the ids stay apart, and each half belongs on its own side.
use Rattle.std.specs.Prelude.{◌≡◌, ℕ, zero, ◌<◌, ℤ, Bool, true, false, ◌||◌, Option, Some, None, List, [], ◌∷◌, ◌++◌, is_some, slice_index_or, Result, Ok, Err, OnOk, refl, ◌⊎◌}
use Rattle.std.proofs.Common.{sym, ◌∙◌, ap, subst, arith, inl, inr}
use Rattle.std.specs.declared.cmp.Ordering.{Ordering}
use Rattle.std.specs.declared.cmp.Ordering.TheVariants.{Less, Equal, Greater}
use Rattle.std.specs.Ordering.{int_cmp, int_eq, is_lt, ordering_reverse}
use Rattle.std.specs.Cmp.{IsTotalOrder, IsStrictWeakOrder, IsEquivalence, int_cmp_total, then_total, on_total}
use Rattle.std.proofs.lemmas.Cmp.{int_eq_equiv, on_equiv}
use Rattle.std.proofs.lemmas.List.MinMax.{ranks_by}
use Rattle.std.specs.FinMap as map
use Rattle.std.specs.List.{AllByRecursion, Contains, IsDistinct, list_any}
use Rattle.std.specs.List.Sorted.{IsPermutation, IsSplitAroundBy}
use Rattle.std.proofs.lemmas.List.Sorted.{Contains-permutation, IsPermutation-sym, IsPermutation-middle, IsPermutation-trans}
use Rattle.std.proofs.lemmas.List.Elements.{Contains-append_left, Contains-append_right}
use Rattle.std.proofs.lemmas.Map.Keys.{IsDistinct-head, IsDistinct-tail, IsDistinct-push, IsDistinct-IsPermutation}
use Rattle.slab.specs.Slab.{slab_len}
use Rattle.slab.proofs.SlabLemmas.{Contains-cons, Contains-cons_cases}
use Rattle.gx_base.specs.declared.calls.Spot.{Spot}
use Rattle.gx_base.specs.PointKind.{spot_of, spot_at}
use Rattle.gx_base.proofs.CallerLemmas.{both_equal}
use Rattle.point_trees.specs.declared.nodes.Axis.{Axis}
use Rattle.point_trees.specs.declared.nodes.Node.{Node}
use Rattle.point_trees.specs.declared.nodes.Seat.{Seat}
use Rattle.point_trees.specs.declared.nodes.Seat.TheVariants.{Found, Free, Empty}
use Rattle.point_trees.specs.declared.tree.Tree.{Tree}
use Rattle.point_trees.specs.Trees.{coordinate, level_cmp, spot_cmp, is_bare, IsSeat}
use Rattle.point_trees.specs.TreeStates.{node_at, tree_state, NoPoint, NoneBare, IsClear, IsSound, key_of, SeatsStay, HangsBelow, IsBlank}
use Rattle.point_trees.specs.Rebuilding.{IsPointOf, HaveOwnIds, AreNew, Gathers}
use Rattle.point_trees.proofs.trees.Openings.{on_way_there}
use Rattle.point_trees.proofs.states.Basics.{int_eq-of, int_eq-comm, some_none, not_both}
use Rattle.point_trees.proofs.rebuilds.Gathering.{no_spot, spot_id, contains_one, blank_row}

-- spots are in a total order along an axis
spot_cmp_total : (axis : Axis) → IsTotalOrder (spot_cmp axis)
spot_cmp_total axis =
    then_total (on_total (coordinate axis) int_cmp_total)
    (then_total (on_total (λ (r : Spot). r.x) int_cmp_total) (then_total (on_total (λ (r : Spot). r.y) int_cmp_total) (then_total (on_total (λ (r : Spot). r.z) int_cmp_total) (on_total (λ (r : Spot). r.id) int_cmp_total))))

pub spot_cmp_ranks : (axis : Axis) → IsStrictWeakOrder (λ p q. is_lt (spot_cmp axis p q))
spot_cmp_ranks axis = ranks_by (spot_cmp_total axis) (λ (r : Spot). r)

tied_id : (axis : Axis) (p q : Spot) → spot_cmp axis p q ≡ Equal → p.id ≡ q.id
tied_id axis p q e =
    let level : level_cmp p q ≡ Equal = (both_equal (int_cmp (coordinate axis p) (coordinate axis q)) _ e).1 in
    let past_x = (both_equal (int_cmp p.x q.x) _ level).1 in
    let past_y = (both_equal (int_cmp p.y q.y) _ past_x).1 in
    map.int_cmp-IsAntisymmetric _ _ (both_equal (int_cmp p.z q.z) _ past_y).1

-- a spot of another id that isn't after comes before
before : (axis : Axis) (p q : Spot) → int_eq p.id q.id ≡ false → is_lt (spot_cmp axis q p) ≡ false → is_lt (spot_cmp axis p q) ≡ true
before axis p q other e = by_order (spot_cmp axis p q) refl
  where
    by_order : (o : Ordering) → spot_cmp axis p q ≡ o → is_lt o ≡ true
    by_order Less t = refl
    by_order Equal t = absurd (not_both (int_eq p.id q.id) (int_eq-of p.id q.id (tied_id axis p q t)) other)
    by_order Greater t = absurd (let f : is_lt (ordering_reverse Greater) ≡ false = ap (λ o. is_lt (ordering_reverse o)) (sym t) ∙ ap is_lt (sym ((spot_cmp_total axis).antisymm q p)) ∙ e in cc)

-- both spots have one id
abbrev same_id : Spot → Spot → Bool
same_id p q = int_eq p.id q.id

same_id_equiv : IsEquivalence same_id
same_id_equiv = on_equiv (λ (r : Spot). r.id) int_eq_equiv

every : {X : Type 0} (P : X → Type 0) (xs : List X) → AllByRecursion P xs → (r : X) → Contains xs r → P r
every P [] a r h = absurd (let b : h.0 < 0 = h.1 in omega arith)
every P (x ∷ xs) a r h = by_place (every P xs a.1 r) (Contains-cons_cases x r xs h)
  where
    by_place : (Contains xs r → P r) → (x ≡ r) ⊎ Contains xs r → P r
    by_place more (inl e) = subst P e a.0
    by_place more (inr k) = more k

every_left : {X : Type 0} (P : X → Type 0) (xs ys : List X) → AllByRecursion P (xs ++ ys) → AllByRecursion P xs
every_left P [] ys a = tt
every_left P (x ∷ xs) ys a = (a.0, every_left P xs ys a.1)

own_left : (xs ys : List Spot) → HaveOwnIds (xs ++ ys) → HaveOwnIds xs
unfolding IsDistinct
own_left [] ys d = tt
own_left (x ∷ xs) ys d = (every_left (λ y. same_id x y ≡ false) xs ys d.0, own_left xs ys d.1)

own_right : (xs ys : List Spot) → HaveOwnIds (xs ++ ys) → HaveOwnIds ys
own_right [] ys d = d
own_right (x ∷ xs) ys d = own_right xs ys (IsDistinct-tail same_id x (xs ++ ys) d)

apart_from : (x : Spot) (xs : List Spot) → HaveOwnIds (x ∷ xs) → (r : Spot) → Contains xs r → same_id x r ≡ false
apart_from x xs d = every (λ y. same_id x y ≡ false) xs (IsDistinct-head same_id x xs d)

apart_parts : (xs ys : List Spot) → HaveOwnIds (xs ++ ys) → (r s : Spot) → Contains xs r → Contains ys s → same_id r s ≡ false
apart_parts [] ys d r s h k = absurd (let b : h.0 < 0 = h.1 in omega arith)
apart_parts (x ∷ xs) ys d r s h k = by_place (λ m. apart_parts xs ys (IsDistinct-tail same_id x (xs ++ ys) d) r s m k) (Contains-cons_cases x r xs h)
  where
    by_place : (Contains xs r → same_id r s ≡ false) → (x ≡ r) ⊎ Contains xs r → same_id r s ≡ false
    by_place more (inl e) = subst (λ y. same_id y s ≡ false) e (apart_from x (xs ++ ys) d s (Contains-append_right xs ys s k))
    by_place more (inr m) = more m

-- one spot more
or_false : (b c : Bool) → b ≡ false → c ≡ false → (b || c) ≡ false
or_false true c e f = e
or_false false c e f = f

none_such : (test : Spot → Bool) (xs : List Spot) → ((r : Spot) → Contains xs r → test r ≡ false) → list_any test xs ≡ false
none_such test [] h = refl
none_such test (x ∷ xs) h = or_false (test x) (list_any test xs) (h x (zero, omega arith, refl)) (none_such test xs (λ r k. h r (Contains-cons x r xs k)))

pub own_more : (xs : List Spot) (y : Spot) → HaveOwnIds xs → ((r : Spot) → Contains xs r → int_eq y.id r.id ≡ false) → HaveOwnIds (xs ++ y ∷ [])
own_more xs y d h = IsDistinct-push same_id_equiv xs y d (none_such (same_id y) xs h)

pub own_none : HaveOwnIds []
unfolding IsDistinct
own_none = tt

-- seats
abbrev key_of_seat : Seat → ℕ
key_of_seat (Found j) = j
key_of_seat (Free j left) = j
key_of_seat Empty = 0

free_key : (j key : ℕ) (side left : Bool) → Free j side ≡ Free key left → j ≡ key
free_key j key side left e = ap key_of_seat e

abbrev side_of_seat : Seat → Bool
side_of_seat (Found j) = true
side_of_seat (Free j left) = left
side_of_seat Empty = true

other_side : {key : ℕ} → Free key false ≡ Free key true → ⊥
other_side e = let f : false ≡ true = ap side_of_seat e in cc

free_spot : (tree : Tree) (id : ℤ) → NoPoint tree id → spot_at (tree_state tree) id ≡ None
free_spot tree id free = ap (spot_of id) free

-- an id that no new point has is still free
held_else : (old : Tree) (spots : List Spot) (id : ℤ) → NoPoint old id → ((r : Spot) → Contains spots r → int_eq r.id id ≡ false) → (r : Spot) → r.id ≡ id → IsPointOf old r ⊎ Contains spots r → ⊥
held_else old spots id free other r named (inl k) = some_none r (sym (free_spot old id free) ∙ ap (spot_at (tree_state old)) (sym named) ∙ k)
held_else old spots id free other r named (inr k) = not_both (int_eq r.id id) (int_eq-of r.id id named) (other r k)

still_free : (old new : Tree) (spots : List Spot) (id : ℤ) → Gathers old new spots → NoPoint old id → ((r : Spot) → Contains spots r → int_eq r.id id ≡ false) → NoPoint new id
still_free old new spots id g free other = no_spot new id (spot_at (tree_state new) id) refl (none_by (spot_at (tree_state new) id) refl)
  where
    none_by : (o : Option Spot) → spot_at (tree_state new) id ≡ o → spot_at (tree_state new) id ≡ None
    none_by None e = e
    none_by (Some r) e =
        let named : r.id ≡ id = spot_id new id r e in
        absurd (held_else old spots id free other r named (g.none_else r (ap (spot_at (tree_state new)) named ∙ e)))

in_spots : (spots front back : List Spot) (middle : Spot) → IsPermutation spots (front ++ middle ∷ back) → (r : Spot) → Contains (front ++ middle ∷ back) r → Contains spots r
in_spots spots front back middle p r k = Contains-permutation (front ++ middle ∷ back) spots r (IsPermutation-sym spots (front ++ middle ∷ back) p) k

pub middle_in : (spots front back : List Spot) (middle : Spot) → IsPermutation spots (front ++ middle ∷ back) → Contains spots middle
middle_in spots front back middle p = in_spots spots front back middle p middle (Contains-append_right front (middle ∷ back) middle (zero, omega arith, refl))

-- the middle one is put in before the spots around it
module _ (old : Tree) (spots front back : List Spot) (middle : Spot) (seat : Seat) (axis : Axis) (new : AreNew old spots seat) (p : IsPermutation spots (front ++ middle ∷ back))
    (split : IsSplitAroundBy (λ p q. is_lt (spot_cmp axis p q)) front middle back) where
  around : HaveOwnIds (middle ∷ (front ++ back))
  around = IsDistinct-IsPermutation same_id (λ x y. int_eq-comm x.id y.id) spots (middle ∷ (front ++ back)) (IsPermutation-trans spots (front ++ middle ∷ back) (middle ∷ (front ++ back)) p (IsPermutation-middle front middle back)) new.own

  ends : HaveOwnIds (front ++ back)
  ends = IsDistinct-tail same_id middle (front ++ back) around

  front_in : (r : Spot) → Contains front r → Contains spots r
  front_in r k = in_spots spots front back middle p r (Contains-append_left front (middle ∷ back) r k)

  back_in : (r : Spot) → Contains back r → Contains spots r
  back_in r k = in_spots spots front back middle p r (Contains-append_right front (middle ∷ back) r (Contains-cons middle r back k))

  front_apart : (r : Spot) → Contains front r → int_eq middle.id r.id ≡ false
  front_apart r k = apart_from middle (front ++ back) around r (Contains-append_left front back r k)

  back_apart : (r : Spot) → Contains back r → int_eq middle.id r.id ≡ false
  back_apart r k = apart_from middle (front ++ back) around r (Contains-append_right front back r k)

  not_one : (r : Spot) → int_eq middle.id r.id ≡ false → (s : Spot) → Contains (middle ∷ []) s → int_eq s.id r.id ≡ false
  not_one r e s k = subst (λ (y : Spot). int_eq y.id r.id ≡ false) (contains_one middle s k) e

  front_left : (r : Spot) → Contains front r → is_lt (spot_cmp axis r middle) ≡ true
  front_left r k = before axis r middle (int_eq-comm r.id middle.id ∙ front_apart r k) (subst (λ y. is_lt (spot_cmp axis middle y) ≡ false) k.2 (split.0 k.0 r k.1))

  back_right : (r : Spot) → Contains back r → is_lt (spot_cmp axis r middle) ≡ false
  back_right r k = subst (λ y. is_lt (spot_cmp axis y middle) ≡ false) k.2 (split.1 k.0 r k.1)

  module _ (mid : Tree) (key : ℕ) (first : Gathers old mid (middle ∷ [])) (b : HangsBelow old mid seat middle axis key) where
    pub front_new : AreNew mid front (Free key true)
    front_new = record {
      own = own_left front back ends;
      bare = b.none_bare new.bare;
      free = λ r k. still_free old mid (middle ∷ []) r.id first (new.free r (front_in r k)) (not_one r (front_apart r k));
      seated = λ r k. subst (λ side. IsSeat (node_at mid) mid.root r (Free key side)) (front_left r k) (b.below r (new.seated r (front_in r k)));
    }

    pub back_new : (next : Tree) → Gathers mid next front → SeatsStay mid next (Free key true) → NoneBare next → AreNew next back (Free key false)
    back_new next g stay bare = record {
      bare = bare;
      own = own_right front back ends;
      free = λ r k. still_free mid next front r.id g (still_free old mid (middle ∷ []) r.id first (new.free r (back_in r k)) (not_one r (back_apart r k))) (λ s m. apart_parts front back ends s r m k);
      seated = λ r k. stay r key false (subst (λ side. IsSeat (node_at mid) mid.root r (Free key side)) (back_right r k) (b.below r (new.seated r (back_in r k)))) other_side;
    }

-- other seats stay through all
module _ (old mid next end : Tree) (seat : Seat) (middle : Spot) (axis : Axis) (key : ℕ) (b : HangsBelow old mid seat middle axis key) where
  other_node : (r : Spot) (j : ℕ) (side left : Bool) → IsSeat (node_at old) old.root r (Free j side) → Free j side ≡ Free key left → ⊥
  other_node r j side left s e = some_none s.0 (sym b.vacant ∙ ap (node_at old) (sym (free_key j key side left e)) ∙ s.1)

  all_beside : SeatsStay mid next (Free key true) → SeatsStay next end (Free key false) → SeatsStay old end seat
  all_beside f g = λ r j side s d. g r j side (f r j side (b.beside r j side s d) (other_node r j side true s)) (other_node r j side false s)

pub all_beside_ok : {T E : Type 0} (result : Result T E) (old mid next end : Tree) (seat : Seat) (middle : Spot) (axis : Axis) (key : ℕ) → HangsBelow old mid seat middle axis key → SeatsStay mid next (Free key true)
    → OnOk result (SeatsStay next end (Free key false)) → OnOk result (SeatsStay old end seat)
all_beside_ok (Ok x) old mid next end seat middle axis key b f g = all_beside old mid next end seat middle axis key b f g
all_beside_ok (Err x) old mid next end seat middle axis key b f g = tt

-- where no node is bare, each way is clear
pub none_clear : (tree : Tree) (r : Spot) → IsSound tree → NoneBare tree → IsClear tree r
none_clear tree r s b k j e = by_node (node_at tree j) refl (on_way_there (node_at tree) tree.root (slab_len tree.nodes) (key_of tree) s.placed r k j e)
  where
    by_node : (o : Option Node) → node_at tree j ≡ o → is_some (node_at tree j) ≡ true → is_bare (node_at tree j) ≡ false
    by_node None g t = absurd (let f : false ≡ true = sym (ap is_some g) ∙ t in cc)
    by_node (Some n) g t = ap is_bare g ∙ b j n g

-- the spots of a tree without nodes belong at its root
pub blank_new : (tree : Tree) (spots given : List Spot) → IsBlank tree → HaveOwnIds given → spots ≡ given → AreNew tree spots Empty
blank_new tree spots given b own e = record {
  own = subst HaveOwnIds (sym e) own;
  free = λ r k. blank_row tree r.id b;
  bare = λ j n e. absurd (some_none n (sym (ap (λ slots. slice_index_or slots j None) b.slots) ∙ e));
  seated = λ r k. b.root;
}
