-- What rooms tell after one was entered and left again.
use Rattle.std.specs.Prelude.{◌≡◌, ℕ, ◌+◌, Bool, true, false, ◌==◌, ◌&&◌, if◌then◌else◌, Option, Some, None, length, is_some}
use Rattle.std.proofs.Common.{◌∙◌, ap}
use Rattle.gx_base.specs.Replays.{put}
use Rattle.gx_base.specs.RoomViews.{RoomView}
use Rattle.rooms.specs.RoomsViews.{RoomsView, is_room_held, holds_book, mark_in, mark_entered, commits_in, commits_entered, nowhere, visited, entered, is_release, released_with, with_value, left}
use Rattle.rooms.proofs.puts.Putting.{same_number, put_same, put_other, put_back_again}

module _ {V : Type 0} (tells : V → RoomView) (view : RoomsView V) (room : ℕ) (value : V) where
  pub held_entered : is_room_held (entered tells view room value) room ≡ true
  held_entered = ap (λ (o : Option RoomView). is_some o) (put_same view.held room (Some (tells value)))

  pub held_elsewhere : (other : ℕ) → (room == other) ≡ false → is_room_held (entered tells view room value) other ≡ is_room_held view other
  held_elsewhere other e = ap (λ (o : Option RoomView). is_some o) (put_other view.held room (Some (tells value)) other e)

  pub mark_entered_here : mark_entered (entered tells view room value) room ≡ (tells value).mark
  mark_entered_here = ap mark_in (put_same view.held room (Some (tells value)))

  pub commits_entered_elsewhere : (room == view.book) ≡ false → commits_entered (entered tells view room value) ≡ commits_entered view
  commits_entered_elsewhere e = ap commits_in (put_other view.held room (Some (tells value)) view.book e)

  pub released_elsewhere : (room == view.book) ≡ false → (entered tells view room value).released ≡ view.released
  released_elsewhere e = ap (λ (b : Bool). if b then nowhere else view.released) e

pub commits_entered_here : {V : Type 0} (tells : V → RoomView) (view : RoomsView V) (value : V) → commits_entered (entered tells view view.book value) ≡ length (tells value).commits
commits_entered_here tells view value = ap commits_in (put_same view.held view.book (Some (tells value)))

pub released_here : {V : Type 0} (tells : V → RoomView) (view : RoomsView V) (value : V) → (entered tells view view.book value).released ≡ nowhere
released_here tells view value = ap (λ (b : Bool). if b then nowhere else view.released) (same_number view.book)

module _ {V : Type 0} (tells : V → RoomView) (view : RoomsView V) (room : ℕ) (was now : V) (free : view.held room ≡ None) where
  abbrev mark : ℕ
  mark = (tells now).mark

  -- the caller holds then what it held before
  back : put (entered tells view room was).held room None ≡ view.held
  back = put_back_again view.held room (Some (tells was)) None free

  -- with the rooms that are then released
  changed : (released : ℕ → Bool) → released_with (entered tells view room was) room mark ≡ released → left tells (entered tells view room was) room now ≡ record (with_value tells view room now) { released = released; moves = visited room was now view.moves }
  changed released h = λ i. record (with_value tells view room now) { held = back i; released = h i; moves = visited room was now view.moves }

  -- ---- a gate

  module _ (e : (room == view.book) ≡ false) where
    abbrev released_if : Bool → ℕ → Bool
    released_if release = if release then put (entered tells view room was).released room true else (entered tells view room was).released

    released_gate_with : (release : Bool) → is_release (entered tells view room was) mark ≡ release → released_with (entered tells view room was) room mark ≡ released_if release
    released_gate_with release h = ap (λ (b : Bool). if b then nowhere else released_if (is_release (entered tells view room was) mark)) e ∙ ap released_if h

    no_release : holds_book view ≡ false → is_release (entered tells view room was) mark ≡ false
    no_release h = ap (λ (b : Bool). b && (mark == commits_entered (entered tells view room was) + 1)) (held_elsewhere tells view room was view.book e ∙ h)

    release : holds_book view ≡ true → mark ≡ commits_entered view + 1 → is_release (entered tells view room was) mark ≡ true
    release h m =
        ap (λ (b : Bool). b && (mark == commits_entered (entered tells view room was) + 1)) (held_elsewhere tells view room was view.book e ∙ h)
        ∙ ap (λ n. mark == n + 1) (commits_entered_elsewhere tells view room was e) ∙ ap (λ n. n == commits_entered view + 1) m ∙ same_number (commits_entered view + 1)

    pub visited_gate : holds_book view ≡ false → left tells (entered tells view room was) room now ≡ record (with_value tells view room now) { moves = visited room was now view.moves }
    visited_gate h = changed view.released (released_gate_with false (no_release h) ∙ released_elsewhere tells view room was e)

    pub released_gate : holds_book view ≡ true → mark ≡ commits_entered view + 1 → left tells (entered tells view room was) room now ≡ record (with_value tells view room now) { released = put view.released room true; moves = visited room was now view.moves }
    released_gate h m = changed (put view.released room true) (released_gate_with true (release h m) ∙ ap (λ f. put f room true) (released_elsewhere tells view room was e))

-- ---- the book

released_book : {V : Type 0} (view : RoomsView V) (mark : ℕ) → released_with view view.book mark ≡ nowhere
released_book view mark = ap (λ (b : Bool). if b then nowhere else (if is_release view mark then put view.released view.book true else view.released)) (same_number view.book)

pub visited_book : {V : Type 0} (tells : V → RoomView) (view : RoomsView V) (was now : V) → view.held view.book ≡ None → left tells (entered tells view view.book was) view.book now ≡ record (with_value tells view view.book now) { released = nowhere; moves = visited view.book was now view.moves }
visited_book tells view was now free = changed tells view view.book was now free nowhere (released_book (entered tells view view.book was) (tells now).mark)
