-- Rooms in a vector are kept where one is left.
use Rattle.std.specs.Prelude.{◌≡◌, ℕ, ◌+◌, ◌<◌, ◌≤◌, Bool, true, false, ◌==◌, ◌&&◌, if◌then◌else◌, Option, Some, None, List, ◌∷◌, length, slice_get, slice_set, is_some, refl}
use Rattle.std.specs.Option.{option_map}
use Rattle.std.proofs.Common.{sym, ◌∙◌, ap, subst, arith, inl, inr}
use Rattle.std.proofs.lemmas.List.{length-set}
use Rattle.std.proofs.lemmas.Option.{same_Some}
use Rattle.gx_base.specs.Replays.{put}
use Rattle.gx_base.specs.RoomViews.{RoomView, is_book}
use Rattle.rooms.specs.RoomsViews.{RoomsView, is_room_held, holds_book, mark_in, mark_entered, commits_entered, entries_for, nowhere, is_release, told_with, leaves, left}
use Rattle.rooms.specs.HandedOut.{MayStand, MayHaveMark, MayBeLeft}
use Rattle.rooms.specs.Visits.{Visits, count_in, commit_count, view_of, AreKeptValues}
use Rattle.rooms.proofs.puts.Putting.{no_bool, numbers_equal, numbers_differ, get_set, get_other}
use Rattle.rooms.proofs.kept.EnteredRooms.{entered_commits}

told_again : {V : Type 0} (o : Option V) (value : V) → is_some o ≡ true → told_with o value ≡ Some value
told_again None value h = absurd (cc)
told_again (Some old) value h = refl

some_mapped : {A B : Type 0} (f : A → B) (o : Option A) → is_some (option_map f o) ≡ true → is_some o ≡ true
some_mapped f None h = h
some_mapped f (Some x) h = refl

both_left : (a b : Bool) → (a && b) ≡ true → a ≡ true
both_left true b h = refl
both_left false b h = h

both_right : (a b : Bool) → (a && b) ≡ true → b ≡ true
both_right true b h = h
both_right false b h = absurd (cc)

module _ {V : Type 0} (tells : V → RoomView) (view : RoomsView V) (values : List V) (k : AreKeptValues tells view values) (room : ℕ) (value : V) (holds : is_room_held view room ≡ true) (may : MayBeLeft view room (tells value)) where
  abbrev no_view : Option RoomView
  no_view = None

  abbrev mark : ℕ
  mark = (tells value).mark

  -- the room told its value
  was_told : is_some (view.told room) ≡ true
  was_told = some_mapped tells (view.told room) (subst (λ (o : Option RoomView). is_some o ≡ true) (k.held room holds) holds)

  in_place : room < length values
  in_place = let h : room ≤ view.book = k.in_range room holds in let n : length values ≡ view.book + 1 = k.size in omega arith

  home_by : (q : ℕ) (b : Bool) → (room == q) ≡ b → is_some (if b then None else view.held q) ≡ false → (if b then told_with (view.told room) value else view.told q) ≡ slice_get (slice_set values room value) q
  home_by q true e h = told_again (view.told room) value was_told ∙ sym (subst (λ r. slice_get (slice_set values room value) r ≡ Some value) (numbers_equal room q e) (get_set values room value in_place))
  home_by q false e h = k.home q h ∙ sym (get_other values room q value (numbers_differ room q e))

  held_by : (q : ℕ) (b : Bool) → (room == q) ≡ b → is_some (if b then no_view else view.held q) ≡ true → (if b then None else view.held q) ≡ option_map tells (if b then told_with (view.told room) value else view.told q)
  held_by q true e h = absurd (cc)
  held_by q false e h = k.held q h

  in_range_by : (q : ℕ) (b : Bool) → is_some (if b then no_view else view.held q) ≡ true → q ≤ view.book
  in_range_by q true h = absurd (cc)
  in_range_by q false h = k.in_range q h

  -- the value of a room is then this one, or the one that it was
  same_value : (other : V) → told_with (view.told room) value ≡ Some other → value ≡ other
  same_value other h = same_Some value other (sym (told_again (view.told room) value was_told) ∙ h)

  suits_by : (q : ℕ) (other : V) (b : Bool) → (room == q) ≡ b → (if b then told_with (view.told room) value else view.told q) ≡ Some other → MayStand view.book view.ordered q (tells other)
  suits_by q other true e h = subst (λ v. MayStand view.book view.ordered q (tells v)) (same_value other h) (subst (λ r. MayStand view.book view.ordered r (tells value)) (numbers_equal room q e) may.suits)
  suits_by q other false e h = k.suits q other h

  live_by : (q : ℕ) (other : V) (b : Bool) → (room == q) ≡ b → (if b then told_with (view.told room) value else view.told q) ≡ Some other
      → entries_for view.acts_for (tells other).live ≡ (if b then entries_for view.acts_for (tells value).live else view.live q)
  live_by q other true e h = sym (ap (λ v. entries_for view.acts_for (tells v).live) (same_value other h))
  live_by q other false e h = k.live q other h

  -- ---- marks

  is_book_here : is_book (tells value).origin ≡ (room == view.book)
  is_book_here = may.suits.book_where

  -- with the book, each mark is covered by its commits
  covered_by : (marked : ℕ) (q : ℕ) (r : Bool) → view.released q ≡ r → is_book (tells value).origin ≡ true → holds_book view ≡ true → marked ≤ (if r then commit_count tells view + 1 else commit_count tells view) → marked ≤ length (tells value).commits
  covered_by marked q true e is h m =
      let more : commits_entered view < length (tells value).commits = (may.commits is).more q e in
      let same : commits_entered view ≡ commit_count tells view = entered_commits tells view values k h in omega arith
  covered_by marked q false e is h m =
      let kept : commits_entered view ≤ length (tells value).commits = (may.commits is).kept in
      let same : commits_entered view ≡ commit_count tells view = entered_commits tells view values k h in omega arith

  book_marks_by : (q : ℕ) (other : V) (d : Bool) → (room == q) ≡ d → (room == view.book) ≡ true → (if d then told_with (view.told room) value else view.told q) ≡ Some other → is_book (tells other).origin ≡ false → (tells other).mark ≤ length (tells value).commits
  book_marks_by q other true e b h is = absurd (no_bool (is_book (tells value).origin) (is_book_here ∙ b) (subst (λ v. is_book (tells v).origin ≡ false) (sym (same_value other h)) is))
  book_marks_by q other false e b h is =
      covered_by (tells other).mark q (view.released q) refl (is_book_here ∙ b) (subst (λ r. is_room_held view r ≡ true) (numbers_equal room view.book b) holds) (k.marks q other h is)

  -- a mark that is as it was
  old_mark_by : (o : Option V) → view.told room ≡ o → (room == view.book) ≡ false → mark ≡ mark_in (option_map tells o) → is_some o ≡ true → mark ≤ (if view.released room then commit_count tells view + 1 else commit_count tells view)
  old_mark_by None e b m h = absurd (cc)
  old_mark_by (Some old) e b m h =
      subst (λ n. n ≤ (if view.released room then commit_count tells view + 1 else commit_count tells view)) (sym m) (k.marks room old e ((k.suits room old e).book_where ∙ b))

  old_mark : (room == view.book) ≡ false → mark ≡ mark_entered view room → mark ≤ (if view.released room then commit_count tells view + 1 else commit_count tells view)
  old_mark b m = old_mark_by (view.told room) refl b (m ∙ ap mark_in (k.held room holds)) was_told

  kept_mark : (room == view.book) ≡ false → is_release view mark ≡ false → MayHaveMark view room mark → mark ≤ (if view.released room then commit_count tells view + 1 else commit_count tells view)
  kept_mark b c (inl e) = old_mark b e
  kept_mark b c (inr e) = absurd (no_bool (is_release view mark) e c)

  next_mark : is_release view mark ≡ true → mark ≤ commit_count tells view + 1
  next_mark c =
      let h : holds_book view ≡ true = both_left (holds_book view) (mark == commits_entered view + 1) c in
      let n : mark ≡ commits_entered view + 1 = numbers_equal mark (commits_entered view + 1) (both_right (holds_book view) (mark == commits_entered view + 1) c) in
      let same : commits_entered view ≡ commit_count tells view = entered_commits tells view values k h in omega arith

  release_marks_by : (q : ℕ) (other : V) (d : Bool) → (room == q) ≡ d → is_release view mark ≡ true → (if d then told_with (view.told room) value else view.told q) ≡ Some other → is_book (tells other).origin ≡ false
      → (tells other).mark ≤ (if (if d then true else view.released q) then commit_count tells view + 1 else commit_count tells view)
  release_marks_by q other true e c h is = subst (λ v. (tells v).mark ≤ commit_count tells view + 1) (same_value other h) (next_mark c)
  release_marks_by q other false e c h is = k.marks q other h is

  plain_marks_by : (q : ℕ) (other : V) (d : Bool) → (room == q) ≡ d → (room == view.book) ≡ false → is_release view mark ≡ false → (if d then told_with (view.told room) value else view.told q) ≡ Some other → is_book (tells other).origin ≡ false
      → (tells other).mark ≤ (if view.released q then commit_count tells view + 1 else commit_count tells view)
  plain_marks_by q other true e b c h is =
      subst (λ v. (tells v).mark ≤ (if view.released q then commit_count tells view + 1 else commit_count tells view)) (same_value other h)
      (subst (λ r. mark ≤ (if view.released r then commit_count tells view + 1 else commit_count tells view)) (numbers_equal room q e) (kept_mark b c (may.mark (is_book_here ∙ b))))
  plain_marks_by q other false e b c h is = k.marks q other h is

  marks_by : (q : ℕ) (other : V) (b c : Bool) → (room == view.book) ≡ b → is_release view mark ≡ c → put view.told room (told_with (view.told room) value) q ≡ Some other → is_book (tells other).origin ≡ false
      → (let count = count_in tells (if b then told_with (view.told room) value else view.told view.book) in (tells other).mark ≤ (if (if b then nowhere else (if c then put view.released room true else view.released)) q then count + 1 else count))
  marks_by q other true c e f h is =
      subst (λ (o : Option V). (tells other).mark ≤ count_in tells o) (sym (told_again (view.told room) value was_told)) (book_marks_by q other (room == q) refl e h is)
  marks_by q other false true e f h is = release_marks_by q other (room == q) refl f h is
  marks_by q other false false e f h is = plain_marks_by q other (room == q) refl e f h is

  released_by : (q : ℕ) (b c : Bool) → is_release view mark ≡ c → (if b then nowhere else (if c then put view.released room true else view.released)) q ≡ true → is_some (if b then no_view else view.held view.book) ≡ true
  released_by q true c f h = absurd (cc)
  released_by q false true f h = both_left (holds_book view) (mark == commits_entered view + 1) f
  released_by q false false f h = k.released q h

  left_kept : AreKeptValues tells (left tells view room value) (slice_set values room value)
  left_kept = record {
    size = length-set values room value ∙ k.size;
    limit = k.limit;
    home = λ q. home_by q (room == q) refl;
    held = λ q. held_by q (room == q) refl;
    in_range = λ q. in_range_by q (room == q);
    suits = λ q other. suits_by q other (room == q) refl;
    live = λ q other. live_by q other (room == q) refl;
    marks = λ q other. marks_by q other (room == view.book) (is_release view mark) refl refl;
    released = λ q. released_by q (room == view.book) (is_release view mark) refl;
  }

-- ---- with the moves since the rooms were made

pub take_back_kept : {V : Type 0} (tells : V → RoomView) (before now after : Visits V) (values values_after : List V) (room : ℕ) (value : V) → before ≡ now → AreKeptValues tells (view_of tells before) values
    → is_room_held (view_of tells now) room ≡ true → MayBeLeft (view_of tells now) room (tells value)
    → after ≡ record before { moves = leaves room value ∷ before.moves } → values_after ≡ slice_set values room value → AreKeptValues tells (view_of tells after) values_after
take_back_kept tells before now after values values_after room value same k held may moved put =
    subst (λ visits. AreKeptValues tells (view_of tells visits) values_after) (sym moved)
    (subst (λ vs. AreKeptValues tells (left tells (view_of tells before) room value) vs) (sym put)
    (left_kept tells (view_of tells before) values k room value
    (subst (λ visits. is_room_held (view_of tells visits) room ≡ true) (sym same) held) (subst (λ visits. MayBeLeft (view_of tells visits) room (tells value)) (sym same) may)))
