-- What kept rooms tell.
use Rattle.std.specs.Prelude.{◌≡◌, ◌⊎◌, ℕ, ◌<◌, ◌≤◌, Bool, true, false, Option, Some, None, List, length, slice_get, is_some, refl}
use Rattle.std.proofs.Common.{sym, ◌∙◌, ap, inl, inr, get_or, arith}
use Rattle.std.proofs.lemmas.Option.{slice_get_within, slice_get_cases}
use Rattle.std.specs.Option.{option_map}
use Rattle.gx_base.specs.RoomViews.{RoomView}
use Rattle.rooms.specs.RoomsViews.{RoomsView, is_room_held}
use Rattle.rooms.specs.Visits.{AreKeptValues, AreTold}

some_mapped : {A B : Type 0} (f : A → B) (o : Option A) → is_some (option_map f o) ≡ is_some o
some_mapped f None = refl
some_mapped f (Some value) = refl

none_from : {A : Type 0} (o : Option A) → (is_some o ≡ true → ⊥) → o ≡ None
none_from None h = refl
none_from (Some value) h = absurd (h refl)

some_of : {A : Type 0} (o : Option A) → is_some o ≡ true → (value : A) × (o ≡ Some value)
some_of None h = absurd (cc)
some_of (Some value) h = (value, refl)

there_or_past : {A : Type 0} (values : List A) (place : ℕ) → place < length values → ((x : A) × (place < length values) × (slice_get values place ≡ Some x) × (get_or values place x ≡ x)) ⊎ ((length values ≤ place) × (slice_get values place ≡ None)) → is_some (slice_get values place) ≡ true
there_or_past values place h (inl found) = ap is_some found.2
there_or_past values place h (inr past) = absurd (let after = past.0 in omega arith)

some_within : {A : Type 0} (values : List A) (place : ℕ) → place < length values → is_some (slice_get values place) ≡ true
some_within values place h = there_or_past values place h (slice_get_cases values place).1

module _ {V : Type 0} (tells : V → RoomView) (view : RoomsView V) (values : List V) (k : AreKeptValues tells view values) where
  there_by : (room : ℕ) (b : Bool) → is_room_held view room ≡ b → room ≤ view.book → is_some (view.told room) ≡ true
  there_by room true h below = sym (some_mapped tells (view.told room)) ∙ ap is_some (sym (k.held room h)) ∙ h
  there_by room false h below = ap is_some (k.home room h) ∙ some_within values room (let size = k.size in omega arith)

  none_held : (room : ℕ) → view.book < room → (b : Bool) → is_room_held view room ≡ b → is_room_held view room ≡ false
  none_held room above true h = absurd (let inside = k.in_range room h in omega arith)
  none_held room above false h = h

  none_there : (room : ℕ) → view.book < room → is_some (slice_get values room) ≡ true → ⊥
  none_there room above h = let value = some_of (slice_get values room) h in absurd (let size = k.size in let inside = slice_get_within values room value.0 value.1 in omega arith)

  pub are_told : AreTold tells view
  are_told = record {
    there = λ room below. there_by room (is_room_held view room) refl below;
    no_more = λ room above. k.home room (none_held room above (is_room_held view room) refl) ∙ none_from (slice_get values room) (none_there room above);
    suits = k.suits;
    live = k.live;
  }
