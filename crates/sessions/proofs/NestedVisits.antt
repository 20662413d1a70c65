-- A gate was visited while the book was held.
use Rattle.std.specs.Prelude.{◌≡◌, ◌≢◌, ℕ, ◌<◌, Bool, true, false, ◌==◌, Option, Some, None, ◌∷◌, is_some, refl}
use Rattle.std.proofs.Common.{sym, ◌∙◌, ap, subst}
use Rattle.gx_base.specs.Replays.{put}
use Rattle.gx_base.specs.RoomViews.{RoomView}
use Rattle.gate_core.specs.Views.{GateView}
use Rattle.commit_book.specs.BookViews.{BookView}
use Rattle.speculation.proofs.Putting.{numbers_equal}
use Rattle.rooms.specs.RoomsViews.{RoomsView, told_with, enters as entry, leaves as exit, visited, entered, left, is_room_held}
use Rattle.rooms.specs.HandedOut.{IsHandedOut, IsLost, CountHasRisen}
use Rattle.rooms.specs.Values.{tells}
use Rattle.rooms.specs.declared.values.Value.{Value}
use Rattle.rooms.specs.declared.values.Value.TheVariants.{Object, Book}
use Rattle.rooms.proofs.CallerLemmas.{put_same, put_other, held_elsewhere}
use Rattle.sessions.specs.Needs.{needs}
use Rattle.sessions.specs.SessionViews.{SessionView}
use Rattle.sessions.specs.TurnMoves.{RoomMoves}
use Rattle.sessions.specs.Turns.{IsLostIn}
use Rattle.sessions.specs.Places.{book_of, IfTold, IsBookIn}
use Rattle.sessions.specs.Visits.{WasVisited, BookWasVisited}
use Rattle.sessions.proofs.Standing.{told_book_itself}
use Rattle.sessions.proofs.Turning.{some_number}
use Rattle.sessions.proofs.BookTurns.{book_visit_gates, book_visit_free, book_visit_told}
use Rattle.sessions.proofs.Visiting.{SameGates, entered_gates, book_gates, other_than_book}

module _ {T S : Type 0} (a x y b : RoomsView (Value T S)) (room : ℕ) (seen now : BookView) (was is : GateView) (handed : IsHandedOut tells a a.book (Book seen))
    (enters : x ≡ entered tells a a.book (Book seen)) (visit : WasVisited x y room was is) (leaves : b ≡ left tells y y.book (Book now)) where
  x_of : {A : Type 0} → (f : RoomsView (Value T S) → A) → f x ≡ f (entered tells a a.book (Book seen))
  x_of f = ap f enters

  y_of : {A : Type 0} → (f : RoomsView (Value T S) → A) → f y ≡ f (left tells (entered tells x room (Object was)) room (Object is))
  y_of f = ap f visit.visit

  b_of : {A : Type 0} → (f : RoomsView (Value T S) → A) → f b ≡ f (left tells y y.book (Book now))
  b_of f = ap f leaves

  y_book : y.book ≡ a.book
  y_book = y_of (λ v. v.book) ∙ x_of (λ v. v.book)

  y_ordered : y.ordered ≡ a.ordered
  y_ordered = y_of (λ v. v.ordered) ∙ x_of (λ v. v.ordered)

  pub nested_before : SameGates a x
  nested_before = subst (SameGates a) (sym enters) (entered_gates a a.book (Book seen))

  pub nested_after : now.ordered ≡ seen.ordered → SameGates y b
  nested_after o = subst (SameGates y) (sym leaves) (book_gates y now (o ∙ handed.suits.ordered_as refl ∙ sym y_ordered))

  pub nested_told : IsBookIn b None now
  nested_told =
      subst (λ (o : Option (Value T S)). IfTold o (λ value. now ≡ book_of value))
      (sym ((λ i. b.told (b_of (λ v. v.book) i)) ∙ b_of (λ v. v.told y.book) ∙ put_same y.told y.book (told_with (y.told y.book) (Book now)))) (told_book_itself (y.told y.book) now (λ z. now ≡ z) refl)

  pub nested_lost : (other : ℕ) → b.lost other ≡ a.lost other
  nested_lost other = b_of (λ v. v.lost other) ∙ y_of (λ v. v.lost other) ∙ x_of (λ v. v.lost other)

  pub nested_moves : b.moves ≡ exit a.book (Book now) ∷ visited room (Object was) (Object is) (entry a.book (Book seen) ∷ a.moves)
  nested_moves = b_of (λ v. v.moves) ∙ (λ i. exit (y_book i) (Book now) ∷ y_of (λ v. v.moves) i) ∙ ap (λ (ms : RoomMoves T S). exit a.book (Book now) ∷ visited room (Object was) (Object is) ms) (x_of (λ v. v.moves))

  module _ (free : (other : ℕ) → is_room_held a other ≡ false) where
    x_free : (other : ℕ) → (a.book == other) ≡ false → is_room_held x other ≡ false
    x_free other e = ap (λ (o : Option RoomView). is_some o) (x_of (λ v. v.held other) ∙ put_other a.held a.book _ other e) ∙ free other

    y_by : (other : ℕ) → (a.book == other) ≡ false → (c : Bool) → (room == other) ≡ c → is_room_held y other ≡ false
    y_by other e true r =
        ap (λ (o : Option RoomView). is_some o)
        (y_of (λ v. v.held other) ∙ ap (λ n. put (put x.held room (Some (tells {T = T} {S = S} (Object was)))) room None n) (sym (numbers_equal room other r)) ∙ put_same (put x.held room (Some (tells {T = T} {S = S} (Object was)))) room None)
    y_by other e false r =
        ap (λ (o : Option RoomView). is_some o) (y_of (λ v. v.held other) ∙ put_other (put x.held room (Some (tells {T = T} {S = S} (Object was)))) room None other r ∙ put_other x.held room _ other r) ∙ x_free other e

    b_by : (other : ℕ) → (c : Bool) → (a.book == other) ≡ c → is_room_held b other ≡ false
    b_by other true e =
        ap (λ (o : Option RoomView). is_some o) (b_of (λ v. v.held other) ∙ ap (λ n. put y.held y.book None n) (sym (y_book ∙ numbers_equal a.book other e)) ∙ put_same y.held y.book None)
    b_by other false e =
        ap (λ (o : Option RoomView). is_some o) (b_of (λ v. v.held other) ∙ put_other y.held y.book None other (ap (λ n. n == other) y_book ∙ e)) ∙ y_by other e (room == other) refl

    pub nested_free : (other : ℕ) → is_room_held b other ≡ false
    nested_free other = b_by other (a.book == other) refl

-- a room is free still, when the book was entered
pub entered_free : {T S : Type 0} (a x : RoomsView (Value T S)) (value : Value T S) (room : ℕ) → x ≡ entered tells a a.book value → room < a.book → is_room_held a room ≡ false → is_room_held x room ≡ false
entered_free {T} {S} a x value room e l free = ap (λ (v : RoomsView (Value T S)). is_room_held v room) e ∙ held_elsewhere tells a a.book value room (other_than_book a.book room l) ∙ free

pub entered_below : {T S : Type 0} (a x : RoomsView (Value T S)) (value : Value T S) (room : ℕ) → x ≡ entered tells a a.book value → room < a.book → room < x.book
entered_below {T} {S} a x value room e l = subst (λ (v : RoomsView (Value T S)). room < v.book) (sym e) l

-- ---- a gate that would have been visited while the book was held is held itself, and the book was left as it was

pub record LostNested {T S : Type 0} (a b : RoomsView (Value T S)) (room : ℕ) (seen : BookView) : Type 0 where
  pub gates : SameGates a b
  pub told : IsBookIn b None seen
  pub free : (other : ℕ) → is_room_held b other ≡ false
  pub risen : CountHasRisen (a.lost room) (b.lost room)
  pub others : (other : ℕ) → (room == other) ≡ false → b.lost other ≡ a.lost other
  pub moves : b.moves ≡ visited a.book (Book seen) (Book seen) a.moves

pub lost_nested : {T S : Type 0} (a x y b : RoomsView (Value T S)) (room : ℕ) (seen : BookView) → IsHandedOut tells a a.book (Book seen) → x ≡ entered tells a a.book (Book seen) → IsLost x y room
    → b ≡ left tells y y.book (Book seen) → ((other : ℕ) → is_room_held a other ≡ false) → LostNested a b room seen
lost_nested {T} {S} a x y b room seen handed enters loss leaves free =
    let e : RoomsView (Value T S) = entered tells a a.book (Book seen) in
    let loss_e : IsLost e y room = subst (λ (v : RoomsView (Value T S)). IsLost v y room) enters loss in
    -- what is left is what would have been left at once, but for the count
    let b_is : b ≡ record (left tells e a.book (Book seen)) { lost = put a.lost room (y.lost room) } = leaves ∙ ap (λ (v : RoomsView (Value T S)). left tells v v.book (Book seen)) loss_e.same in
    let at_once : RoomsView (Value T S) = left tells e a.book (Book seen) in
    let visit : BookWasVisited a at_once seen seen = record { handed = handed; visit = refl } in
    let gates : SameGates a at_once = book_visit_gates a at_once seen seen visit refl in
    record {
      gates = subst (SameGates a) (sym b_is) (record { book = gates.book; ordered = gates.ordered; acts_for = gates.acts_for; telling = gates.telling; ordered_told = gates.ordered_told; live = gates.live; told = gates.told });
      told = subst (λ (v : RoomsView (Value T S)). IsBookIn v None seen) (sym b_is) (book_visit_told a at_once seen seen visit);
      free = λ other. ap (λ (v : RoomsView (Value T S)). is_room_held v other) b_is ∙ book_visit_free a at_once seen seen visit free other;
      risen = subst (λ n. CountHasRisen (a.lost room) n) (sym (ap (λ (v : RoomsView (Value T S)). v.lost room) b_is ∙ put_same a.lost room (y.lost room))) loss_e.risen;
      others = λ other n. ap (λ (v : RoomsView (Value T S)). v.lost other) b_is ∙ put_other a.lost room (y.lost room) other n;
      moves = ap (λ (v : RoomsView (Value T S)). v.moves) b_is;
    }

module _ {T S : Type 0} (a b : RoomsView (Value T S)) (s : SessionView) (room : ℕ) where
  others_by : (h : (other : ℕ) → (room == other) ≡ false → b.lost other ≡ a.lost other) (other : ℕ) → Some room ≢ Some other → (c : Bool) → (room == other) ≡ c → b.lost other ≡ a.lost other
  others_by h other n true e = absurd (n (ap Some (numbers_equal room other e)))
  others_by h other n false e = h other e

  pub nested_loss : {seen : BookView} → LostNested a b room seen → needs a.book s room ≡ true → IsLostIn a b s (Some room)
  nested_loss l n = record {
    needed = λ other e. subst (λ r. needs a.book s r ≡ true) (some_number e) n;
    risen = λ other e. subst (λ r. CountHasRisen (a.lost r) (b.lost r)) (some_number e) l.risen;
    others = λ other m. others_by l.others other m (room == other) refl;
  }
