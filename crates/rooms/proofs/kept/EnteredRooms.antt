-- Rooms in a vector are kept where one is entered.
use Rattle.std.specs.Prelude.{◌≡◌, ℕ, ◌+◌, ◌≤◌, Bool, true, false, ◌==◌, if◌then◌else◌, Option, Some, None, List, ◌∷◌, slice_get, slice_set, is_some, refl}
use Rattle.std.specs.Option.{option_map}
use Rattle.std.proofs.Common.{sym, ◌∙◌, ap, subst}
use Rattle.std.proofs.lemmas.List.{length-set}
use Rattle.gx_base.specs.RoomViews.{RoomView, is_book}
use Rattle.rooms.specs.RoomsViews.{RoomsView, is_room_held, holds_book, commits_entered, commits_in, nowhere, enters, entered}
use Rattle.rooms.specs.HandedOut.{IsValueTold, IsHandedOut}
use Rattle.rooms.specs.Visits.{Visits, count_in, commit_count, view_of, AreKeptValues}
use Rattle.rooms.proofs.puts.Putting.{no_bool, numbers_equal, numbers_differ, get_other}

module _ {V : Type 0} (tells : V → RoomView) (view : RoomsView V) (values : List V) (k : AreKeptValues tells view values) where
  -- a held book has as many commits as it had when it was entered
  pub entered_commits : holds_book view ≡ true → commits_entered view ≡ commit_count tells view
  entered_commits h = ap commits_in (k.held view.book h) ∙ counted (view.told view.book) where
    counted : (o : Option V) → commits_in (option_map tells o) ≡ count_in tells o
    counted None = refl
    counted (Some value) = refl

  module _ (room : ℕ) (value : V) (free : is_room_held view room ≡ false) (at : view.told room ≡ Some value) where
    -- what is handed out is what the room tells
    value_handed_out : IsHandedOut tells view room value
    value_handed_out = record {
      suits = k.suits room value at;
      live = λ is. k.live room value at;
      mark = λ is h. subst (λ n. (tells value).mark ≤ (if view.released room then n + 1 else n)) (sym (entered_commits h)) (k.marks room value at is);
      told = subst (λ o. IsValueTold o value) (sym at) refl;
    }

    abbrev seen : RoomView
    seen = tells value

    home_by : (vacant : V) (q : ℕ) (b : Bool) → (room == q) ≡ b → is_some (if b then Some seen else view.held q) ≡ false → view.told q ≡ slice_get (slice_set values room vacant) q
    home_by vacant q true e h = absurd (cc)
    home_by vacant q false e h = k.home q h ∙ sym (get_other values room q vacant (numbers_differ room q e))

    held_by : (q : ℕ) (b : Bool) → (room == q) ≡ b → is_some (if b then Some seen else view.held q) ≡ true → (if b then Some seen else view.held q) ≡ option_map tells (view.told q)
    held_by q true e h = sym (ap (option_map tells) (subst (λ r. view.told r ≡ Some value) (numbers_equal room q e) at))
    held_by q false e h = k.held q h

    in_range_by : (q : ℕ) (b : Bool) → room ≤ view.book → (room == q) ≡ b → is_some (if b then Some seen else view.held q) ≡ true → q ≤ view.book
    in_range_by q true in_range e h = subst (λ r. r ≤ view.book) (numbers_equal room q e) in_range
    in_range_by q false in_range e h = k.in_range q h

    -- nothing is released while the book isn't held
    unreleased : (q : ℕ) → (room == view.book) ≡ true → view.released q ≡ false
    unreleased q e = by (view.released q) refl where
      by : (b : Bool) → view.released q ≡ b → view.released q ≡ false
      by true h = absurd (no_bool (holds_book view) (k.released q h) (subst (λ r. is_room_held view r ≡ false) (numbers_equal room view.book e) free))
      by false h = h

    marks_by : (q : ℕ) (other : V) (b : Bool) → (room == view.book) ≡ b → view.told q ≡ Some other → is_book (tells other).origin ≡ false
        → (tells other).mark ≤ (if (if b then nowhere else view.released) q then commit_count tells view + 1 else commit_count tells view)
    marks_by q other true e h is = subst (λ (c : Bool). (tells other).mark ≤ (if c then commit_count tells view + 1 else commit_count tells view)) (unreleased q e) (k.marks q other h is)
    marks_by q other false e h is = k.marks q other h is

    released_by : (q : ℕ) (b : Bool) → (room == view.book) ≡ b → (if b then nowhere else view.released) q ≡ true → is_some (if b then Some seen else view.held view.book) ≡ true
    released_by q true e h = absurd (cc)
    released_by q false e h = k.released q h

    -- the room's place may have any value then
    entered_kept : (vacant : V) → room ≤ view.book → AreKeptValues tells (entered tells view room value) (slice_set values room vacant)
    entered_kept vacant in_range = record {
      size = length-set values room vacant ∙ k.size;
      limit = k.limit;
      home = λ q. home_by vacant q (room == q) refl;
      held = λ q. held_by q (room == q) refl;
      in_range = λ q. in_range_by q (room == q) in_range refl;
      suits = k.suits;
      live = k.live;
      marks = λ q other. marks_by q other (room == view.book) refl;
      released = λ q. released_by q (room == view.book) refl;
    }

-- ---- with the moves since the rooms were made

module _ {V : Type 0} (tells : V → RoomView) (before now : Visits V) (same : before ≡ now) (values : List V) (room : ℕ) (value : V) (k : AreKeptValues tells (view_of tells before) values)
    (in_range : room ≤ (view_of tells now).book) (free : is_room_held (view_of tells now) room ≡ false) (is : slice_get values room ≡ Some value) where
  in_range_before : room ≤ (view_of tells before).book
  in_range_before = subst (λ visits. room ≤ (view_of tells visits).book) (sym same) in_range

  free_before : is_room_held (view_of tells before) room ≡ false
  free_before = subst (λ visits. is_room_held (view_of tells visits) room ≡ false) (sym same) free

  told_before : (view_of tells before).told room ≡ Some value
  told_before = k.home room free_before ∙ is

  -- the value in the vector is what the rooms may hand out
  pub value_may_go : IsHandedOut tells (view_of tells now) room value
  value_may_go = subst (λ visits. IsHandedOut tells (view_of tells visits) room value) same (value_handed_out tells (view_of tells before) values k room value free_before told_before)

  -- and the rooms are kept then, whatever stands in its place
  pub hand_out_kept : (vacant : V) (after : Visits V) (values_after : List V) → after ≡ record before { moves = enters room value ∷ before.moves } → values_after ≡ slice_set values room vacant → AreKeptValues tells (view_of tells after) values_after
  hand_out_kept vacant after values_after moved put =
      subst (λ visits. AreKeptValues tells (view_of tells visits) values_after) (sym moved)
      (subst (λ vs. AreKeptValues tells (entered tells (view_of tells before) room value) vs) (sym put) (entered_kept tells (view_of tells before) values k room value free_before told_before vacant in_range_before))
