-- A take that the list says is lost, and the others, over rooms that tell no values.
use Rattle.std.specs.Prelude.{◌≡◌, ◌⊎◌, ℕ, ◌+◌, ◌<◌, ◌≤◌, min, Bool, true, false, ◌==◌, if◌then◌else◌, Option, Some, None, IfSome, IfNone, List, length, slice_index_or, slice_set, refl}
use Rattle.std.proofs.Common.{sym, ◌∙◌, ap, subst, inl, inr, arith}
use Rattle.std.proofs.lemmas.Bool.{cases_lt}
use Rattle.std.proofs.lemmas.List.{get_or-set_same, get_or-set_other}
use Rattle.std.proofs.lemmas.Option.{slice_get_read, get_or_from_slice_get}
use Rattle.std.specs.Cmp.{unsigned_Decides}
use Rattle.gx_base.specs.RoomViews.{RoomView}
use Rattle.rooms.specs.RoomsViews.{RoomsView, left}
use Rattle.rooms.specs.HandedOut.{CountHasRisen, IsLost, IsHandedOut}
use Rattle.rooms.specs.Visits.{Visits, view_of}
use Rattle.rooms.proofs.CallerLemmas.{put_itself, vector_never_risen}
use Rattle.session_cases.specs.LostTakes.{lossy_view}

module _ (lost : List ℕ) (room count : ℕ) (inside : room < length lost) where
  here : slice_index_or (slice_set lost room count) room 0 ≡ count
  here = get_or-set_same lost room count 0 inside

  counts_by : (number : ℕ) (b : Bool) → (room == number) ≡ b → slice_index_or (slice_set lost room count) number 0 ≡ (if b then slice_index_or (slice_set lost room count) room 0 else slice_index_or lost number 0)
  counts_by number true e = sym (ap (λ r. slice_index_or (slice_set lost room count) r 0) ((unsigned_Decides room number).0 e))
  counts_by number false e = get_or-set_other lost room number count 0 (λ h. apart (room == number) ((unsigned_Decides room number).1 (sym h)) e) where
    apart : (b : Bool) → b ≡ true → b ≡ false → ⊥
    apart true p q = absurd (cc)
    apart false p q = absurd (cc)

  take_is_lost : {V : Type 0} (tells : V → RoomView) (visits : Visits V) → CountHasRisen (slice_index_or lost room 0) count → IsLost (lossy_view tells visits lost) (lossy_view tells visits (slice_set lost room count)) room
  take_is_lost tells visits h = record {
    risen = subst (λ n. CountHasRisen (slice_index_or lost room 0) n) (sym here) h;
    same = λ i. record (view_of tells visits) { lost = λ number. counts_by number (room == number) refl i; told = λ number. None };
  }

rises : (was count : ℕ) → was ≤ 18446744073709551615 → count ≡ min (was + 1) 18446744073709551615 → CountHasRisen was count
rises was count small is = by (cases_lt was 18446744073709551615)
  where
    by : (was < 18446744073709551615) ⊎ (18446744073709551615 ≤ was) → CountHasRisen was count
    by (inl below) = inl (omega arith)
    by (inr full) = inr (omega arith, omega arith)

-- a count goes up by one, or stays at the last value
pub take_is_counted : {V : Type 0} (tells : V → RoomView) (rooms rooms_now : Visits V) (lost lost_now : List ℕ) (room was count : ℕ) → rooms_now ≡ rooms → lost_now ≡ lost → length lost ≡ (view_of tells rooms).book + 1 → room ≤ (view_of tells rooms).book
    → was ≤ 18446744073709551615 → was ≡ slice_index_or lost_now room was → count ≡ min (was + 1) 18446744073709551615 → IsLost (lossy_view tells rooms lost) (lossy_view tells rooms_now (slice_set lost_now room count)) room
take_is_counted tells rooms rooms_now lost lost_now room was count same_rooms same_lost size in_range small value is =
    subst (λ r. IsLost (lossy_view tells rooms lost) (lossy_view tells r (slice_set lost_now room count)) room) (sym same_rooms)
    (subst (λ l. IsLost (lossy_view tells rooms lost) (lossy_view tells rooms (slice_set l room count)) room) (sym same_lost)
    (let inside : room < length lost = omega arith in
    let read : slice_index_or lost room 0 ≡ was = get_or_from_slice_get lost room was 0 (slice_get_read lost (length lost) room was refl inside (subst (λ l. was ≡ slice_index_or l room was) same_lost value)) in
    take_is_lost lost room count inside tells rooms (subst (λ n. CountHasRisen n count) (sym read) (rises was count small is))))

take_is_never_lost : {V : Type 0} (tells : V → RoomView) (before after : Visits V) (room : ℕ) → IsLost (view_of tells before) (view_of tells after) room → ⊥
take_is_never_lost tells before after room h = vector_never_risen tells before after room h.risen

-- rooms in a vector lose none
pub none_is_lost : {V : Type 0} (tells : V → RoomView) (before after : Visits V) (room : ℕ) (P : Type 0) (result : Option V) → IfNone result (IsLost (view_of tells before) (view_of tells after) room) → IfNone result P
none_is_lost tells before after room P None h = absurd (take_is_never_lost tells before after room h)
none_is_lost tells before after room P (Some value) h = tt

-- ---- takes that aren't lost

-- the rooms tell less of what they hand out
pub some_is_handed : {V : Type 0} (tells : V → RoomView) (rooms rooms_now : Visits V) (lost : List ℕ) (room : ℕ) (result : Option V) → rooms_now ≡ rooms → IfSome result (λ value. IsHandedOut tells (view_of tells rooms_now) room value)
    → IfSome result (λ value. IsHandedOut tells (lossy_view tells rooms lost) room value)
some_is_handed tells rooms rooms_now lost room None same h = tt
some_is_handed tells rooms rooms_now lost room (Some value) same h =
    let handed : IsHandedOut tells (view_of tells rooms) room value = subst (λ r. IsHandedOut tells (view_of tells r) room value) same h in
    record { suits = handed.suits; live = handed.live; mark = handed.mark; told = tt }

-- what is left is told no more than what was handed out
pub left_untold : {V : Type 0} (tells : V → RoomView) (rooms rooms_now : Visits V) (lost : List ℕ) (room : ℕ) (value : V) → view_of tells rooms_now ≡ left tells (view_of tells rooms) room value
    → lossy_view tells rooms_now lost ≡ left tells (lossy_view tells rooms lost) room value
left_untold {V} tells rooms rooms_now lost room value h =
    ap (λ (v : RoomsView V). record v { lost = λ number. slice_index_or lost number 0; told = λ number. None }) h
    ∙ (λ i. record (left tells (lossy_view tells rooms lost) room value) { told = sym (put_itself (λ number. None) room None refl) i })
