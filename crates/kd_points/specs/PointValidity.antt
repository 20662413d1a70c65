-- The tables of points: the precise one is valid, and the others are as they should be. These laws stand here since points
-- say of what they ship that it suits them, and that takes nothing from this crate's proofs.
use Rattle.std.specs.Prelude.{◌≡◌, ℤ, pos, Bool, true, false, not, cond, ◌&&◌, ◌||◌, if◌then◌else◌, Option, Some, None, List, refl, ◌⊎◌}
use Rattle.std.proofs.Common.{sym, ◌∙◌, ap, inl, inr}
use Rattle.std.specs.Ordering.{int_eq}
use Rattle.gx_base.specs.declared.calls.Call.{Call}
use Rattle.gx_base.specs.declared.calls.Spot.{Spot}
use Rattle.gx_base.specs.declared.calls.Seen.{Seen}
use Rattle.gx_base.specs.declared.kinds.Kind.TheVariants.{Points}
use Rattle.gx_base.specs.Kinds.{kind_number}
use Rattle.gx_base.specs.Conditions.{holds}
use Rattle.gx_base.specs.States.{State, row_at, with_row}
use Rattle.gx_base.proofs.CallerLemmas.{row_at-same, written_back, same_content-is, IsBelow-itself, False-IsBelow, point_deed-foreign}
use Rattle.gx_base.specs.Spots.{beyond, spot_of_call, spot_of_reply}
use Rattle.gx_base.specs.RowActions.{RowAction, Turn, Look, action_next, action_reply, turns}
use Rattle.gx_base.specs.PointKind.{PointDeed, Add, Remove, At, Nearest, Nothing, point_deed, point_action, may_add, point_meaning, point_row_of, nearest, nearest_reply, spot_of, HoldsPlaces}
use Rattle.kd_points.specs.NearestPoints.{Avoids, Behind, beyond-back, nearest-own, nearest-with, nearest-without}
use Rattle.kind_tables.proofs.CallerLemmas.{SwapsBy, effect_in, first_still, second_still, both_still, same_int, either, both, not_true, int_eq-comm, IsNear, Pair, two_turns, turn_first, turn_second, turn_still, pair_swaps, action_effect, TableLaws, valid_from, TableFacts, NoneIsFalse, keeps}
use Rattle.gx_base.specs.Below.{IsBelow}
use Rattle.cond_lattice.specs.Simple.{strengthened}
use Rattle.kd_points.specs.PointTables.{no_point, precise_point, simple_point, reader_writer_point, point_tables}

-- the words of a row about `nearest`, as facts
avoids_of : (o : Option Spot) (x : ℤ) → not (int_eq (nearest_reply o).p x) ≡ true → Avoids o x
avoids_of None x e = tt
avoids_of (Some n) x e = not_true _ e

flag : (b : Bool) → int_eq (if b then pos 1 else pos 0) (pos 1) ≡ true → b ≡ true
flag true e = refl
flag false e = absurd (cc)

behind_of : (q c : Spot) (o : Option Spot)
    → (not (int_eq (nearest_reply o).p no_point) && int_eq (if beyond q c (spot_of_reply (nearest_reply o)) then pos 1 else pos 0) (pos 1)) ≡ true
    → Behind q o (Some c)
behind_of q c None e = absurd (cc)
behind_of q c (Some n) e = beyond-back q c n (flag _ (both _ _ e).1)

turned_if : (b : Bool) (q : Spot) (s t : State) → (b ≡ true → nearest t q ≡ nearest s q) → nearest (cond b t s) q ≡ nearest s q
turned_if true q s t h = h refl
turned_if false q s t h = refl

found_at : (allowed : Bool) (found : Option (List ℤ)) (s : State) (x : ℤ) → turns allowed found s x ≡ true → row_at s (0, x) ≡ found
found_at allowed found s x t = same_content-is _ _ (both _ _ t).1

-- nearest, and then a turn of the spot's own row
own_kept : (s : State) (q : Spot) (x : ℤ) (allowed : Bool) (found left : Option (List ℤ)) → int_eq q.id x ≡ true → nearest (action_next (Turn allowed found left) s x) q ≡ nearest s q
own_kept s q x allowed found left e =
    turned_if (turns allowed found s x) q s (with_row s (0, x) left) (λ t. ap (λ y. nearest (with_row s (0, y) left) q) (sym (same_int q.id x e)) ∙ nearest-own s q left)

-- nearest and add
add_kept : (s : State) (q : Spot) (x : ℤ) (allowed : Bool) (left : Option (List ℤ)) → Behind q (nearest s q) (spot_of x left) → nearest (action_next (Turn allowed None left) s x) q ≡ nearest s q
add_kept s q x allowed left b =
    turned_if (turns allowed None s x) q s (with_row s (0, x) left) (λ t. nearest-with s q x left (found_at allowed None s x t) b)

-- nearest and remove
remove_kept : (s : State) (q : Spot) (x : ℤ) (allowed : Bool) (found : Option (List ℤ)) → Avoids (nearest s q) x → nearest (action_next (Turn allowed found None) s x) q ≡ nearest s q
remove_kept s q x allowed found a = turned_if (turns allowed found s x) q s (with_row s (0, x) None) (λ t. nearest-without s q x a)

-- add, and then nearest
add_undone : (s : State) (q : Spot) (x : ℤ) (allowed : Bool) (left : Option (List ℤ)) → Avoids (nearest (action_next (Turn allowed None left) s x) q) x
    → nearest s q ≡ nearest (action_next (Turn allowed None left) s x) q
add_undone s q x allowed left a = back_if (turns allowed None s x) refl a
  where
    back_if : (b : Bool) → turns allowed None s x ≡ b → Avoids (nearest (cond b (with_row s (0, x) left) s) q) x → nearest s q ≡ nearest (cond b (with_row s (0, x) left) s) q
    back_if true t a = ap (λ u. nearest u q) (sym (written_back s (0, x) left None (found_at allowed None s x t))) ∙ nearest-without (with_row s (0, x) left) q x a
    back_if false t a = refl

-- remove, and then nearest
remove_undone : (s : State) (q : Spot) (x : ℤ) (allowed : Bool) (found : Option (List ℤ)) → Behind q (nearest (action_next (Turn allowed found None) s x) q) (spot_of x found)
    → nearest s q ≡ nearest (action_next (Turn allowed found None) s x) q
remove_undone s q x allowed found h = back_if (turns allowed found s x) refl h
  where
    back_if : (b : Bool) → turns allowed found s x ≡ b → Behind q (nearest (cond b (with_row s (0, x) None) s) q) (spot_of x found) → nearest s q ≡ nearest (cond b (with_row s (0, x) None) s) q
    back_if true t h =
        ap (λ u. nearest u q) (sym (written_back s (0, x) None found (found_at allowed found s x t)))
        ∙ nearest-with (with_row s (0, x) None) q x found (row_at-same s (0, x) None) h
    back_if false t h = refl

-- a call of `nearest` is swapped where its answer stays
look_first : (s : State) (q : Spot) (x y : ℤ) (act : RowAction) → nearest (action_next act s y) q ≡ nearest s q → SwapsBy (action_effect (Look (λ u. nearest_reply (nearest u q))) x) (action_effect act y) s
look_first s q x y act e = first_still (action_effect (Look (λ u. nearest_reply (nearest u q))) x) (action_effect act y) s refl refl (ap nearest_reply e)

look_second : (s : State) (q : Spot) (x y : ℤ) (act : RowAction) → nearest s q ≡ nearest (action_next act s x) q → SwapsBy (action_effect act x) (action_effect (Look (λ u. nearest_reply (nearest u q))) y) s
look_second s q x y act e = second_still (action_effect act x) (action_effect (Look (λ u. nearest_reply (nearest u q))) y) s refl refl (ap nearest_reply e)

-- the four hard pairs
abbrev pub RowHolds : (d e : PointDeed) (s : State) (a b : Call) (seen : Seen) → Type 0
RowHolds d e s a b seen = holds (precise_point d e) (record { call = a; reply = action_reply (point_action d a) s a.a }) (record { call = b; reply = action_reply (point_action e b) (action_next (point_action d a) s a.a) b.a }) seen ≡ true

-- two calls of points may be swapped in s
abbrev pub PointsSwap : (d e : PointDeed) (s : State) (a b : Call) → Type 0
PointsSwap d e s a b = SwapsBy (action_effect (point_action d a) a.a) (action_effect (point_action e b) b.a) s

nearest_add : (s : State) (a b : Call) (seen : Seen) → RowHolds Nearest Add s a b seen → PointsSwap Nearest Add s a b
nearest_add s a b seen t = by_words (either _ _ t)
  where
    q : Spot
    q = spot_of_call a

    allowed : Bool
    allowed = may_add b

    add : RowAction
    add = point_action Add b

    o : Option Spot
    o = nearest s q

    by_ids : (int_eq (action_reply add s b.a).p (pos 0) ≡ true) ⊎ (int_eq a.a b.a ≡ true) → nearest (action_next add s b.a) q ≡ nearest s q
    by_ids (inl e) = ap (λ u. nearest u q) (turn_still allowed None (point_row_of b) s b.a e)
    by_ids (inr e) = own_kept s q b.a allowed None (point_row_of b) e

    by_words : ((int_eq (action_reply add s b.a).p (pos 0) || int_eq a.a b.a) ≡ true)
        ⊎ ((not (int_eq (nearest_reply o).p no_point) && int_eq (if beyond q (spot_of_call b) (spot_of_reply (nearest_reply o)) then pos 1 else pos 0) (pos 1)) ≡ true)
        → PointsSwap Nearest Add s a b
    by_words (inl e) = look_first s q a.a b.a add (by_ids (either _ _ e))
    by_words (inr e) = look_first s q a.a b.a add (add_kept s q b.a allowed (point_row_of b) (behind_of q (spot_of_call b) o e))

add_nearest : (s : State) (a b : Call) (seen : Seen) → RowHolds Add Nearest s a b seen → PointsSwap Add Nearest s a b
add_nearest s a b seen t = look_second s q a.a b.a add (by_words (either _ _ t))
  where
    q : Spot
    q = spot_of_call b

    allowed : Bool
    allowed = may_add a

    add : RowAction
    add = point_action Add a

    o : Option Spot
    o = nearest (action_next add s a.a) q

    turned_about : (x y : ℤ) → not (int_eq x y) ≡ true → not (int_eq y x) ≡ true
    turned_about x y e = ap not (int_eq-comm y x) ∙ e

    by_words : (int_eq (action_reply add s a.a).p (pos 0) ≡ true) ⊎ (not (int_eq a.a (nearest_reply o).p) ≡ true) → nearest s q ≡ nearest (action_next add s a.a) q
    by_words (inl e) = ap (λ u. nearest u q) (sym (turn_still allowed None (point_row_of a) s a.a e))
    by_words (inr e) = add_undone s q a.a allowed (point_row_of a) (avoids_of o a.a (turned_about a.a (nearest_reply o).p e))

nearest_remove : (s : State) (a b : Call) (seen : Seen) → RowHolds Nearest Remove s a b seen → PointsSwap Nearest Remove s a b
nearest_remove s a b seen t = look_first s q a.a b.a remove (by_words (either _ _ t))
  where
    q : Spot
    q = spot_of_call a

    remove : RowAction
    remove = point_action Remove b

    o : Option Spot
    o = nearest s q

    by_words : (int_eq (action_reply remove s b.a).p (pos 0) ≡ true) ⊎ (not (int_eq (nearest_reply o).p b.a) ≡ true) → nearest (action_next remove s b.a) q ≡ nearest s q
    by_words (inl e) = ap (λ u. nearest u q) (turn_still true (point_row_of b) None s b.a e)
    by_words (inr e) = remove_kept s q b.a true (point_row_of b) (avoids_of o b.a e)

remove_nearest : (s : State) (a b : Call) (seen : Seen) → RowHolds Remove Nearest s a b seen → PointsSwap Remove Nearest s a b
remove_nearest s a b seen t = look_second s q a.a b.a remove (by_words (either _ _ t))
  where
    q : Spot
    q = spot_of_call b

    remove : RowAction
    remove = point_action Remove a

    o : Option Spot
    o = nearest (action_next remove s a.a) q

    by_ids : (int_eq (action_reply remove s a.a).p (pos 0) ≡ true) ⊎ (int_eq a.a b.a ≡ true) → nearest s q ≡ nearest (action_next remove s a.a) q
    by_ids (inl e) = ap (λ u. nearest u q) (sym (turn_still true (point_row_of a) None s a.a e))
    by_ids (inr e) = sym (own_kept s q a.a true (point_row_of a) None (int_eq-comm b.a a.a ∙ e))

    by_words : ((int_eq (action_reply remove s a.a).p (pos 0) || int_eq a.a b.a) ≡ true)
        ⊎ ((not (int_eq (nearest_reply o).p no_point) && int_eq (if beyond q (spot_of_call a) (spot_of_reply (nearest_reply o)) then pos 1 else pos 0) (pos 1)) ≡ true)
        → nearest s q ≡ nearest (action_next remove s a.a) q
    by_words (inl e) = by_ids (either _ _ e)
    by_words (inr e) = remove_undone s q a.a true (point_row_of a) (behind_of q (spot_of_call a) o e)

-- the pairs that use one row each
abbrev pub PointPair : (d e : PointDeed) (s : State) (a b : Call) → Type 0
PointPair d e s a b = Pair s a.a b.a (point_action d a) (point_action e b)

near_swaps : (d e : PointDeed) (s : State) (a b : Call) → IsNear (point_action d a) → IsNear (point_action e b) → PointPair d e s a b → PointsSwap d e s a b
near_swaps d e s a b f g h = pair_swaps s a.a b.a (point_action d a) (point_action e b) f g h

swaps_by : (d e : PointDeed) (s : State) (a b : Call) (seen : Seen) → RowHolds d e s a b seen → PointsSwap d e s a b
swaps_by Add Add s a b seen t = near_swaps Add Add s a b tt tt (two_turns s a.a b.a (may_add a) (may_add b) None (point_row_of a) None (point_row_of b) t)
swaps_by Add Remove s a b seen t = near_swaps Add Remove s a b tt tt (two_turns s a.a b.a (may_add a) true None (point_row_of a) (point_row_of b) None t)
swaps_by Add At s a b seen t = near_swaps Add At s a b tt tt (turn_first s a.a b.a (may_add a) None (point_row_of a) (point_action At b) refl t)
swaps_by Add Nearest s a b seen t = add_nearest s a b seen t
swaps_by Add Nothing s a b seen t = absurd (cc)
swaps_by Remove Add s a b seen t = near_swaps Remove Add s a b tt tt (two_turns s a.a b.a true (may_add b) (point_row_of a) None None (point_row_of b) t)
swaps_by Remove Remove s a b seen t = near_swaps Remove Remove s a b tt tt (two_turns s a.a b.a true true (point_row_of a) None (point_row_of b) None t)
swaps_by Remove At s a b seen t = near_swaps Remove At s a b tt tt (turn_first s a.a b.a true (point_row_of a) None (point_action At b) refl t)
swaps_by Remove Nearest s a b seen t = remove_nearest s a b seen t
swaps_by Remove Nothing s a b seen t = absurd (cc)
swaps_by At Add s a b seen t = near_swaps At Add s a b tt tt (turn_second s a.a b.a (point_action At a) (may_add b) None (point_row_of b) refl t)
swaps_by At Remove s a b seen t = near_swaps At Remove s a b tt tt (turn_second s a.a b.a (point_action At a) true (point_row_of b) None refl t)
swaps_by At At s a b seen t = both_still _ _ s refl refl
swaps_by At Nearest s a b seen t = both_still _ _ s refl refl
swaps_by At Nothing s a b seen t = absurd (cc)
swaps_by Nearest Add s a b seen t = nearest_add s a b seen t
swaps_by Nearest Remove s a b seen t = nearest_remove s a b seen t
swaps_by Nearest At s a b seen t = both_still _ _ s refl refl
swaps_by Nearest Nearest s a b seen t = both_still _ _ s refl refl
swaps_by Nearest Nothing s a b seen t = absurd (cc)
swaps_by Nothing e s a b seen t = absurd (cc)

-- where a row is true, its calls may be swapped
pub point_swaps : (s : State) (a b : Call) (seen : Seen)
    → holds (point_tables.precise a.method b.method) (record { call = a; reply = point_meaning.reply s a }) (record { call = b; reply = point_meaning.reply (point_meaning.next s a) b }) seen ≡ true
    → SwapsBy (effect_in point_meaning a) (effect_in point_meaning b) s
point_swaps s a b seen t = swaps_by (point_deed a.method) (point_deed b.method) s a b seen t

-- the precise table of points is valid
pub point_table : TableLaws point_meaning HoldsPlaces point_tables.precise
point_table = record {
  swaps = λ s a b h fa fb t. point_swaps s a b (record { first = pos 0; second = pos 0 }) t;
  sees_first = λ s a b h fa fb t l x. refl;
  sees_second = λ s a b h fa fb t l x. refl;
}

point_none : NoneIsFalse Nothing precise_point
point_none = record { left = λ d. refl; right = elim [ Add ↦ refl | Remove ↦ refl | At ↦ refl | Nearest ↦ refl | Nothing ↦ refl ] }

reader_writer_none : NoneIsFalse Nothing reader_writer_point
reader_writer_none = record { left = λ d. refl; right = elim [ Add ↦ refl | Remove ↦ refl | At ↦ refl | Nearest ↦ refl | Nothing ↦ refl ] }

point_strengthened : (d e : PointDeed) → simple_point d e ≡ strengthened (precise_point d e)
point_strengthened Add Add = refl
point_strengthened Remove Add = refl
point_strengthened At Add = refl
point_strengthened Nearest Add = refl
point_strengthened Nothing e = refl
point_strengthened d e = refl

readers_below_point : (d e : PointDeed) → IsBelow (reader_writer_point d e) (simple_point d e)
readers_below_point Add Add = IsBelow-itself _
readers_below_point Add Remove = IsBelow-itself _
readers_below_point Add At = IsBelow-itself _
readers_below_point Add Nearest = False-IsBelow _
readers_below_point Add Nothing = False-IsBelow _
readers_below_point Remove Add = IsBelow-itself _
readers_below_point Remove Remove = IsBelow-itself _
readers_below_point Remove At = IsBelow-itself _
readers_below_point Remove Nearest = False-IsBelow _
readers_below_point Remove Nothing = False-IsBelow _
readers_below_point At Add = IsBelow-itself _
readers_below_point At Remove = IsBelow-itself _
readers_below_point At At = IsBelow-itself _
readers_below_point At Nearest = IsBelow-itself _
readers_below_point At Nothing = False-IsBelow _
readers_below_point Nearest Add = False-IsBelow _
readers_below_point Nearest Remove = False-IsBelow _
readers_below_point Nearest At = IsBelow-itself _
readers_below_point Nearest Nearest = IsBelow-itself _
readers_below_point Nearest Nothing = False-IsBelow _
readers_below_point Nothing e = False-IsBelow _

pub point_facts : TableFacts (kind_number Points) point_tables
point_facts = record {
  valid = valid_from (kind_number Points) point_tables.precise point_table;
  keeps_to_kind = keeps (kind_number Points) Nothing point_deed point_deed-foreign precise_point point_none;
  strengthened = λ first second. point_strengthened (point_deed first) (point_deed second);
  readers_below = λ first second. readers_below_point (point_deed first) (point_deed second);
  readers_keep_to_kind = keeps (kind_number Points) Nothing point_deed point_deed-foreign reader_writer_point reader_writer_none;
}
