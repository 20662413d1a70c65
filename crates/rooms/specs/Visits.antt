-- Rooms in a vector: the values that they had at first, and what was handed out and left since.
use Rattle.std.specs.Prelude.{◌≡◌, ℕ, ◌+◌, ◌-◌, ◌<◌, ◌≤◌, ◌^◌, Bool, true, false, if◌then◌else◌, Option, Some, None, List, [], ◌∷◌, length, is_some, slice_get, refl}
use Rattle.std.specs.Option.{option_map}
use Rattle.std.specs.Coded.{Coded, code_by, coded×, coded_ℕ, coded_bool, coded_list}
use Rattle.gx_base.specs.declared.acts.Entry.{Entry}
use Rattle.gx_base.specs.RoomViews.{RoomView, is_book}
use Rattle.rooms.specs.RoomsViews.{Move, RoomsView, is_room_held, holds_book, entries_for, nowhere, entered, left}
use Rattle.rooms.specs.HandedOut.{is_ordered, MayStand}

-- the values at first, and the moves, the newest before the others
pub record Visits (V : Type 0) : Type 0 where
  pub values : List V
  pub moves : List (Move V)

-- ---- what these rooms tell

abbrev pub everyone : ℕ → Bool
everyone worker = true

abbrev pub live_in : {V : Type 0} → (V → RoomView) → Option V → List Entry
live_in tells None = []
live_in tells (Some value) = (tells value).live

abbrev pub ordered_in : {V : Type 0} → (V → RoomView) → Option V → Bool
ordered_in tells None = false
ordered_in tells (Some value) = is_ordered (tells value).origin

-- they tell their values and act for every worker, and so they never lose a take
abbrev pub first_view : {V : Type 0} → (V → RoomView) → List V → RoomsView V
first_view tells values = record {
  book = length values - 1;
  ordered = ordered_in tells (slice_get values (length values - 1));
  acts_for = everyone;
  live = λ room. entries_for everyone (live_in tells (slice_get values room));
  held = λ room. None;
  released = nowhere;
  lost = λ room. 0;
  told = λ room. slice_get values room;
  moves = [];
}

abbrev pub after_move : {V : Type 0} → (V → RoomView) → Move V → RoomsView V → RoomsView V
after_move tells move view = if move.was_left then left tells view move.room move.value else entered tells view move.room move.value

abbrev pub after_moves : {V : Type 0} → (V → RoomView) → List (Move V) → RoomsView V → RoomsView V
after_moves tells [] view = view
after_moves tells (move ∷ moves) view = after_move tells move (after_moves tells moves view)

abbrev pub view_of : {V : Type 0} → (V → RoomView) → Visits V → RoomsView V
view_of tells visits = after_moves tells visits.moves (first_view tells visits.values)

-- ---- what they are made of

-- the number of commits of the last of these
abbrev pub last_commits : List RoomView → ℕ
last_commits [] = 0
last_commits (seen ∷ []) = length seen.commits
last_commits (seen ∷ (next ∷ rest)) = last_commits (next ∷ rest)

-- gates and then a book. No gate's mark is greater than the book's number of commits
abbrev pub AreGatesAndBook : List RoomView → Type 0
AreGatesAndBook [] = ⊥
AreGatesAndBook (seen ∷ []) = is_book seen.origin ≡ true
AreGatesAndBook (seen ∷ (next ∷ rest)) = (is_book seen.origin ≡ false) × (seen.mark ≤ last_commits (next ∷ rest)) × AreGatesAndBook (next ∷ rest)

-- ---- what holds of them between any two calls

-- the number of commits of the book, as it was entered where it is held
abbrev pub count_in : {V : Type 0} → (V → RoomView) → Option V → ℕ
count_in tells None = 0
count_in tells (Some value) = length (tells value).commits

abbrev pub commit_count : {V : Type 0} → (V → RoomView) → RoomsView V → ℕ
commit_count tells view = count_in tells (view.told view.book)

-- Each value that isn't held is the one in the vector, and each held one was told by its room as it was entered; each stands
-- where it may, and no gate's mark is more than the number of commits, or one more than that where the room was released.
pub record AreKeptValues {V : Type 0} (tells : V → RoomView) (view : RoomsView V) (values : List V) : Type 0 where
  pub size : length values ≡ view.book + 1
  pub limit : view.book < 2 ^ 32
  pub home : (room : ℕ) → is_room_held view room ≡ false → view.told room ≡ slice_get values room
  pub held : (room : ℕ) → is_room_held view room ≡ true → view.held room ≡ option_map tells (view.told room)
  pub in_range : (room : ℕ) → is_room_held view room ≡ true → room ≤ view.book
  pub suits : (room : ℕ) (value : V) → view.told room ≡ Some value → MayStand view.book view.ordered room (tells value)
  pub live : (room : ℕ) (value : V) → view.told room ≡ Some value → entries_for view.acts_for (tells value).live ≡ view.live room
  pub marks : (room : ℕ) (value : V) → view.told room ≡ Some value → is_book (tells value).origin ≡ false → (tells value).mark ≤ (if view.released room then commit_count tells view + 1 else commit_count tells view)
  pub released : (room : ℕ) → view.released room ≡ true → holds_book view ≡ true

-- each room up to the book's has a value that suits it, and no other room has one
pub record AreTold {V : Type 0} (tells : V → RoomView) (view : RoomsView V) : Type 0 where
  pub there : (room : ℕ) → room ≤ view.book → is_some (view.told room) ≡ true
  pub no_more : (room : ℕ) → view.book < room → view.told room ≡ None
  pub suits : (room : ℕ) (value : V) → view.told room ≡ Some value → MayStand view.book view.ordered room (tells value)
  pub live : (room : ℕ) (value : V) → view.told room ≡ Some value → entries_for view.acts_for (tells value).live ≡ view.live room

-- ---- how these are stored

abbrev pub move_code : {V : Type 0} → Coded V → Coded (Move V)
move_code {V} code =
    code_by (Bool × (ℕ × V)) (coded× coded_bool (coded× coded_ℕ code))
    (λ m. (m.was_left, (m.room, m.value)))
    (λ p. record { was_left = p.0; room = p.1.0; value = p.1.1 })
    (λ _. refl)

abbrev pub visits_code : {V : Type 0} → Coded V → Coded (Visits V)
visits_code {V} code =
    code_by (List V × List (Move V)) (coded× (coded_list code) (coded_list (move_code code)))
    (λ v. (v.values, v.moves))
    (λ p. record { values = p.0; moves = p.1 })
    (λ _. refl)
