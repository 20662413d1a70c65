-- New rooms in a vector are kept.
use Rattle.std.specs.Prelude.{◌≡◌, ◌≢◌, ℕ, zero, suc, ◌+◌, ◌-◌, ◌<◌, ◌≤◌, ◌^◌, Bool, true, false, ◌==◌, Some, List, [], ◌∷◌, length, map, slice_get, refl}
use Rattle.std.proofs.Common.{sym, ap, subst, arith}
use Rattle.std.proofs.lemmas.Option.{same_Some, slice_get_within}
use Rattle.gx_base.specs.RoomViews.{RoomView, is_book}
use Rattle.rooms.specs.RoomsViews.{entries_for}
use Rattle.rooms.specs.HandedOut.{is_ordered}
use Rattle.rooms.specs.Visits.{everyone, live_in, ordered_in, first_view, last_commits, AreGatesAndBook, count_in, AreKeptValues}
use Rattle.rooms.proofs.puts.Putting.{no_bool, numbers_equal, numbers_differ}

module _ {V : Type 0} (tells : V → RoomView) where
  -- the value at the last place is the book
  last_is_book : (values : List V) (last : ℕ) (value : V) → last + 1 ≡ length values → AreGatesAndBook (map tells values) → slice_get values last ≡ Some value → is_book (tells value).origin ≡ true
  last_is_book [] last value n g e = absurd (omega arith)
  last_is_book (x ∷ []) zero value n g e = subst (λ v. is_book (tells v).origin ≡ true) (same_Some x value e) g
  last_is_book (x ∷ []) (suc last) value n g e = absurd (omega arith)
  last_is_book (x ∷ (y ∷ ys)) zero value n g e = absurd (omega arith)
  last_is_book (x ∷ (y ∷ ys)) (suc last) value n g e = last_is_book (y ∷ ys) last value (omega arith) g.2 e

  -- a value before it is a gate, with a mark that isn't greater than the number of commits
  before_is_gate : (values : List V) (last room : ℕ) (value : V) → last + 1 ≡ length values → AreGatesAndBook (map tells values) → room < last → slice_get values room ≡ Some value
      → (is_book (tells value).origin ≡ false) × ((tells value).mark ≤ last_commits (map tells values))
  before_is_gate [] last room value n g h e = absurd (omega arith)
  before_is_gate (x ∷ []) last room value n g h e = absurd (omega arith)
  before_is_gate (x ∷ (y ∷ ys)) last zero value n g h e =
      subst (λ v. (is_book (tells v).origin ≡ false) × ((tells v).mark ≤ last_commits (map tells (y ∷ ys)))) (same_Some x value e) (g.0, g.1)
  before_is_gate (x ∷ (y ∷ ys)) zero (suc room) value n g h e = absurd (omega arith)
  before_is_gate (x ∷ (y ∷ ys)) (suc last) (suc room) value n g h e = before_is_gate (y ∷ ys) last room value (omega arith) g.2 (omega arith) e

  last_count : (values : List V) (last : ℕ) → last + 1 ≡ length values → last_commits (map tells values) ≡ count_in tells (slice_get values last)
  last_count [] last n = absurd (omega arith)
  last_count (x ∷ []) zero n = refl
  last_count (x ∷ []) (suc last) n = absurd (omega arith)
  last_count (x ∷ (y ∷ ys)) zero n = absurd (omega arith)
  last_count (x ∷ (y ∷ ys)) (suc last) n = last_count (y ∷ ys) last (omega arith)

  module _ (values : List V) (last : ℕ) (n : last + 1 ≡ length values) (g : AreGatesAndBook (map tells values)) where
    before : (room : ℕ) (value : V) → (room == last) ≡ false → slice_get values room ≡ Some value → (is_book (tells value).origin ≡ false) × ((tells value).mark ≤ last_commits (map tells values))
    before room value e h =
        before_is_gate values last room value n g
        (let apart : room ≢ last = numbers_differ room last e in let inside : room < length values = slice_get_within values room value h in omega arith) h

    book_by : (room : ℕ) (value : V) (b : Bool) → (room == last) ≡ b → slice_get values room ≡ Some value → is_book (tells value).origin ≡ b
    book_by room value true e h = last_is_book values last value n g (subst (λ k. slice_get values k ≡ Some value) (numbers_equal room last e) h)
    book_by room value false e h = (before room value e h).0

    ordered_by : (room : ℕ) (value : V) (b : Bool) → (room == last) ≡ b → slice_get values room ≡ Some value → is_book (tells value).origin ≡ true → is_ordered (tells value).origin ≡ ordered_in tells (slice_get values last)
    ordered_by room value true e h is = sym (ap (λ o. ordered_in tells o) (subst (λ k. slice_get values k ≡ Some value) (numbers_equal room last e) h))
    ordered_by room value false e h is = absurd (no_bool (is_book (tells value).origin) is (before room value e h).0)

    marks_by : (room : ℕ) (value : V) (b : Bool) → (room == last) ≡ b → slice_get values room ≡ Some value → is_book (tells value).origin ≡ false → (tells value).mark ≤ count_in tells (slice_get values last)
    marks_by room value true e h is = absurd (no_bool (is_book (tells value).origin) (book_by room value true e h) is)
    marks_by room value false e h is = subst (λ k. (tells value).mark ≤ k) (last_count values last n) (before room value e h).1

    first_kept : last ≡ length values - 1 → length values < 2 ^ 32 → AreKeptValues tells (first_view tells values) values
    first_kept is few = record {
      size = omega arith;
      limit = omega arith;
      home = λ room h. refl;
      held = λ room h. absurd (cc);
      in_range = λ room h. absurd (cc);
      suits = λ room value h. record {
        book_where = subst (λ k. is_book (tells value).origin ≡ (room == k)) is (book_by room value (room == last) refl h);
        ordered_as = λ b. subst (λ k. is_ordered (tells value).origin ≡ ordered_in tells (slice_get values k)) is (ordered_by room value (room == last) refl h b);
      };
      live = λ room value h. sym (ap (λ o. entries_for everyone (live_in tells o)) h);
      marks = λ room value h b. subst (λ k. (tells value).mark ≤ count_in tells (slice_get values k)) is (marks_by room value (room == last) refl h b);
      released = λ room h. absurd (cc);
    }

  some_last : (values : List V) → AreGatesAndBook (map tells values) → (length values - 1) + 1 ≡ length values
  some_last [] g = absurd g
  some_last (x ∷ xs) g = omega arith

  -- new rooms with these values are kept
  pub new_kept : (values : List V) → AreGatesAndBook (map tells values) → length values < 2 ^ 32 → AreKeptValues tells (first_view tells values) values
  new_kept values g few = first_kept values (length values - 1) (some_last values g) g refl few
