-- The rooms of a log, and a release where there is nothing to release.
use Rattle.std.specs.Prelude.{◌≡◌, ℕ, ◌+◌, ◌<◌, Bool, true, false, not, ◌||◌, ◌==◌, if◌then◌else◌, List, [], ◌∷◌, ◌++◌, refl, ⊤}
use Rattle.std.proofs.Common.{sym, ◌∙◌, ap, arith}
use Rattle.std.proofs.lemmas.List.{append-nil}
use Rattle.std.proofs.lemmas.Cmp.{ranked}
use Rattle.std.specs.declared.cmp.Ordering.{Ordering}
use Rattle.std.specs.declared.cmp.Ordering.TheVariants.{Less, Equal, Greater}
use Rattle.std.specs.Ordering.{nat_cmp, match_ordering, MatchOrdering}
use Rattle.std.specs.BTreeSet.{insert_key}
use Rattle.gx_base.specs.declared.acts.Entry.{Entry}
use Rattle.gx_base.specs.declared.acts.Step.{Step}
use Rattle.gate_core.specs.Entries.{is_of, entries_of, others_than, has_entry, done_under}
use Rattle.gate_core.specs.Views.{GateView, release}
use Rattle.speculation.proofs.Putting.{same_number}
use Rattle.sessions.specs.Places.{AreStepsWithin}
use Rattle.sessions.specs.RoomLists.{is_room_among, rooms_of, steps_in, AreAbove, AreRoomsRising, AreRoomsBelow}

-- ---- a number more

abbrev with_number : List ℕ → ℕ → List ℕ
with_number xs k = insert_key nat_cmp xs k

or_twice : (p q : Bool) → (p || q) ≡ (p || (p || q))
or_twice true q = refl
or_twice false q = refl

or_swap : (p q r : Bool) → (p || (q || r)) ≡ (q || (p || r))
or_swap true true r = refl
or_swap true false r = refl
or_swap false q r = refl

module _ (k room : ℕ) where
  among_by : (x : ℕ) (xs : List ℕ) (o : Ordering) → MatchOrdering o (k < x) (k ≡ x) (x < k) → is_room_among (with_number xs k) room ≡ ((k == room) || is_room_among xs room)
      → is_room_among (match_ordering o (k ∷ x ∷ xs) (x ∷ xs) (x ∷ with_number xs k)) room ≡ ((k == room) || ((x == room) || is_room_among xs room))
  among_by x xs Less h i = refl
  among_by x xs Equal h i = or_twice (x == room) (is_room_among xs room) ∙ ap (λ n. (n == room) || ((x == room) || is_room_among xs room)) (sym h)
  among_by x xs Greater h i = ap (λ (b : Bool). (x == room) || b) i ∙ or_swap (x == room) (k == room) (is_room_among xs room)

  among_with : (xs : List ℕ) → is_room_among (with_number xs k) room ≡ ((k == room) || is_room_among xs room)
  among_with [] = refl
  among_with (x ∷ xs) = among_by x xs (nat_cmp k x) (ranked k x (nat_cmp k x) refl) (among_with xs)

module _ (k n : ℕ) (l : k < n) where
  below_by : (x : ℕ) (xs : List ℕ) (o : Ordering) → x < n → AreRoomsBelow n xs → AreRoomsBelow n (with_number xs k) → AreRoomsBelow n (match_ordering o (k ∷ x ∷ xs) (x ∷ xs) (x ∷ with_number xs k))
  below_by x xs Less m h i = (l, (m, h))
  below_by x xs Equal m h i = (m, h)
  below_by x xs Greater m h i = (m, i)

  below_with : (xs : List ℕ) → AreRoomsBelow n xs → AreRoomsBelow n (with_number xs k)
  below_with [] h = (l, tt)
  below_with (x ∷ xs) h = below_by x xs (nat_cmp k x) h.0 h.1 (below_with xs h.1)

module _ (k y : ℕ) (l : y < k) where
  above_by : (x : ℕ) (xs : List ℕ) (o : Ordering) → y < x → AreAbove y xs → AreAbove y (with_number xs k) → AreAbove y (match_ordering o (k ∷ x ∷ xs) (x ∷ xs) (x ∷ with_number xs k))
  above_by x xs Less m h i = (l, (m, h))
  above_by x xs Equal m h i = (m, h)
  above_by x xs Greater m h i = (m, i)

  above_with : (xs : List ℕ) → AreAbove y xs → AreAbove y (with_number xs k)
  above_with [] h = (l, tt)
  above_with (x ∷ xs) h = above_by x xs (nat_cmp k x) h.0 h.1 (above_with xs h.1)

above_less : (k x : ℕ) (xs : List ℕ) → k < x → AreAbove x xs → AreAbove k xs
above_less k x [] l h = tt
above_less k x (y ∷ ys) l h = (omega (arith, h.0), above_less k x ys l h.1)

rising_by : (k x : ℕ) (xs : List ℕ) (o : Ordering) → MatchOrdering o (k < x) (k ≡ x) (x < k) → AreAbove x xs → AreRoomsRising xs → AreRoomsRising (with_number xs k) → AreRoomsRising (match_ordering o (k ∷ x ∷ xs) (x ∷ xs) (x ∷ with_number xs k))
rising_by k x xs Less h m r i = ((h, above_less k x xs h m), (m, r))
rising_by k x xs Equal h m r i = (m, r)
rising_by k x xs Greater h m r i = (above_with k x h xs m, i)

rising_with : (k : ℕ) (xs : List ℕ) → AreRoomsRising xs → AreRoomsRising (with_number xs k)
rising_with k [] h = (tt, tt)
rising_with k (x ∷ xs) h = rising_by k x xs (nat_cmp k x) (ranked k x (nat_cmp k x) refl) h.0 h.1 (rising_with k xs h.1)

-- ---- the rooms of steps

pub rooms_rise : (steps : List Step) → AreRoomsRising (rooms_of steps)
rooms_rise [] = tt
rooms_rise (x ∷ xs) = rising_with x.room (rooms_of xs) (rooms_rise xs)

pub rooms_below : (n : ℕ) (steps : List Step) → AreStepsWithin n steps → AreRoomsBelow n (rooms_of steps)
rooms_below n [] h = tt
rooms_below n (x ∷ xs) h = below_with x.room n h.0 (rooms_of xs) (rooms_below n xs h.1)

-- each step is in one of some rooms
abbrev AreIn : List ℕ → List Step → Type 0
AreIn rooms [] = ⊤
AreIn rooms (x ∷ xs) = (is_room_among rooms x.room ≡ true) × AreIn rooms xs

or_second : (p q : Bool) → q ≡ true → (p || q) ≡ true
or_second true q e = refl
or_second false q e = e

in_more : (rooms : List ℕ) (k : ℕ) (steps : List Step) → AreIn rooms steps → AreIn (with_number rooms k) steps
in_more rooms k [] h = tt
in_more rooms k (x ∷ xs) h = (among_with k x.room rooms ∙ or_second (k == x.room) (is_room_among rooms x.room) h.0, in_more rooms k xs h.1)

first_in : (rooms : List ℕ) (k : ℕ) → is_room_among (with_number rooms k) k ≡ true
first_in rooms k = among_with k k rooms ∙ ap (λ (b : Bool). b || is_room_among rooms k) (same_number k)

all_in : (steps : List Step) → AreIn (rooms_of steps) steps
all_in [] = tt
all_in (x ∷ xs) = (first_in (rooms_of xs) x.room, in_more (rooms_of xs) x.room xs (all_in xs))

in_all : (rooms : List ℕ) (steps : List Step) → AreIn rooms steps → steps_in rooms steps ≡ steps
in_all rooms [] h = refl
in_all rooms (x ∷ xs) h = ap (λ (b : Bool). if b then x ∷ steps_in rooms xs else steps_in rooms xs) h.0 ∙ ap (λ (ys : List Step). x ∷ ys) (in_all rooms xs h.1)

-- the steps of a log are those in its rooms
pub steps_in_rooms : (steps : List Step) → steps_in (rooms_of steps) steps ≡ steps
steps_in_rooms steps = in_all (rooms_of steps) steps (all_in steps)

-- ---- nothing to release

module _ (worker iter : ℕ) where
  none_first : (x : Entry) (es : List Entry) (b : Bool) → (if b then x ∷ entries_of worker iter es else entries_of worker iter es) ≡ [] → (b ≡ false) × (entries_of worker iter es ≡ [])
  none_first x es true e = absurd (cc)
  none_first x es false e = (refl, e)

  others_all : (es : List Entry) → entries_of worker iter es ≡ [] → others_than worker iter es ≡ es
  others_all [] e = refl
  others_all (x ∷ es) e =
      let h : (is_of worker iter x ≡ false) × (entries_of worker iter es ≡ []) = none_first x es (is_of worker iter x) e in
      ap (λ (b : Bool). if not b then x ∷ others_than worker iter es else others_than worker iter es) h.0 ∙ ap (λ (ys : List Entry). x ∷ ys) (others_all es h.1)

  has_none : (es : List Entry) → entries_of worker iter es ≡ [] → has_entry worker iter es ≡ false
  has_none [] e = refl
  has_none (x ∷ es) e =
      let h : (is_of worker iter x ≡ false) × (entries_of worker iter es ≡ []) = none_first x es (is_of worker iter x) e in
      λ i. h.0 i || has_none es h.1 i

  -- an iteration without entries leaves a gate as it is
  pub release_nothing : (number : ℕ) (g : GateView) → entries_of worker iter g.live ≡ [] → release g worker iter number ≡ g
  release_nothing number g e =
      let done_is : g.done ++ done_under number (entries_of worker iter g.live) ≡ g.done = ap (λ (es : List Entry). g.done ++ done_under number es) e ∙ append-nil g.done in
      let mark_is : (if has_entry worker iter g.live then number + 1 else g.mark) ≡ g.mark = ap (λ (b : Bool). if b then number + 1 else g.mark) (has_none g.live e) in
      λ i. record g { done = done_is i; live = others_all g.live e i; mark = mark_is i }
