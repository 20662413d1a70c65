-- Turns that leave the book, and no gate.
use Rattle.std.specs.Prelude.{◌≡◌, ℕ, true, false, Option, Some, None, List, is_some, Result, refl}
use Rattle.std.proofs.Common.{sym, ◌∙◌, ap, subst}
use Rattle.gx_base.specs.declared.acts.Entry.{Entry}
use Rattle.gx_base.specs.Plans.{Operator}
use Rattle.gx_base.specs.RoomViews.{RoomView}
use Rattle.commit_book.specs.BookViews.{BookView}
use Rattle.speculation.specs.Machines.{Place}
use Rattle.rooms.specs.RoomsViews.{RoomsView, visited, entered, left, is_room_held}
use Rattle.rooms.specs.HandedOut.{IsHandedOut, IsLost}
use Rattle.rooms.specs.Values.{tells}
use Rattle.rooms.specs.declared.values.Value.{Value}
use Rattle.rooms.specs.declared.values.Value.TheVariants.{Book}
use Rattle.rooms.proofs.CallerLemmas.{put_same}
use Rattle.sessions.specs.declared.events.Event.{Event as CodeEvent}
use Rattle.sessions.specs.declared.events.Stop.{Stop}
use Rattle.sessions.specs.Needs.{needs}
use Rattle.sessions.specs.Places.{IsLogOf, IsFit, AreStepsWithin, IsFitIn, IsBody, IfTold, book_of, IsBookIn, StandsOn}
use Rattle.sessions.specs.SessionViews.{OpenCommit, SessionView}
use Rattle.sessions.specs.Turns.{Answers, HasMoved, TakesTurn}
use Rattle.sessions.specs.Visits.{BookWasVisited}
use Rattle.sessions.proofs.Standing.{AreLeft, fits, told_book, told_book_itself, base_place, base_stands}
use Rattle.sessions.proofs.Visiting.{SameGates, entered_gates, lost_gates, book_gates, then_same, none_left}
use Rattle.sessions.proofs.Turning.{held_again, no_loss, one_loss, turned}

module _ {T S : Type 0} where
  abbrev pub Free : RoomsView (Value T S) → Type 0
  Free v = (room : ℕ) → is_room_held v room ≡ false

  -- a session that holds no room
  pub free_of : (op : Operator) (a : RoomsView (Value T S)) (s : SessionView) → IsFit op a s → s.opened ≡ None → Free a
  free_of op a s fit none = (subst (IsFitIn op a s) none fit.doing).0

  pub body_of : (op : Operator) (a : RoomsView (Value T S)) (s : SessionView) → IsFit op a s → s.opened ≡ None → IsBody op s s.at.phase
  body_of op a s fit none = (subst (IsFitIn op a s) none fit.doing).1

  -- ---- the book was entered and left

  pub book_visited : (a x b : RoomsView (Value T S)) (was left_as now : BookView) → IsHandedOut tells a a.book (Book was) → x ≡ entered tells a a.book (Book was) → b ≡ left tells x x.book (Book left_as) → left_as ≡ now
      → BookWasVisited a b was now
  book_visited a x b was left_as now handed enters leaves same = record { handed = handed; visit = leaves ∙ (λ i. left tells (enters i) (enters i).book (Book (same i))) }

  module _ (a b : RoomsView (Value T S)) (was now : BookView) (visit : BookWasVisited a b was now) where
    field_of : {A : Type 0} → (f : RoomsView (Value T S) → A) → f b ≡ f (left tells (entered tells a a.book (Book was)) a.book (Book now))
    field_of f = ap f visit.visit

    pub was_ordered : was.ordered ≡ a.ordered
    was_ordered = visit.handed.suits.ordered_as refl

    pub book_visit_gates : now.ordered ≡ was.ordered → SameGates a b
    book_visit_gates o =
        let x : RoomsView (Value T S) = entered tells a a.book (Book was) in
        subst (SameGates a) (sym visit.visit) (then_same a x (left tells x a.book (Book now)) (entered_gates a a.book (Book was)) (book_gates x now (o ∙ was_ordered)))

    pub book_visit_free : Free a → Free b
    book_visit_free free room = ap (λ (f : ℕ → Option RoomView). is_some (f room)) (field_of (λ v. v.held)) ∙ held_again a.held a.book (tells {T = T} {S = S} (Book was)) free room

    pub book_visit_lost : (room : ℕ) → b.lost room ≡ a.lost room
    book_visit_lost room = field_of (λ v. v.lost room)

    pub book_visit_moves : b.moves ≡ visited a.book (Book was) (Book now) a.moves
    book_visit_moves = field_of (λ v. v.moves)

    pub book_visit_told : IfTold (b.told b.book) (λ value. now ≡ book_of value)
    book_visit_told =
        subst (λ (o : Option (Value T S)). IfTold o (λ value. now ≡ book_of value))
        (sym ((λ i. b.told (field_of (λ v. v.book) i)) ∙ field_of (λ v. v.told a.book) ∙ put_same a.told a.book _)) (told_book_itself (a.told a.book) now (λ x. now ≡ x) refl)

  -- the place of a session whose book is this one
  abbrev pub book_place : RoomsView (Value T S) → SessionView → BookView → Place
  book_place a s b = record (base_place a s) { book = b }

  pub book_stands : (op : Operator) (a : RoomsView (Value T S)) (s : SessionView) (b : BookView) → IsFit op a s → s.opened ≡ None → IsHandedOut tells a a.book (Book b) → StandsOn a s (book_place a s b)
  book_stands op a s b fit none handed = record {
    session_is = refl;
    gates = (base_stands op a s fit none).gates;
    no_others = (base_stands op a s fit none).no_others;
    logs = (base_stands op a s fit none).logs;
    book = subst (λ (o : Option OpenCommit). IsBookIn a o b) (sym none) (told_book (a.told a.book) b handed.told);
    ordered = handed.suits.ordered_as refl;
  }

  -- ---- a turn that visits the book alone

  module _ (op : Operator) (a b : RoomsView (Value T S)) (s t : SessionView) (was now : BookView) (visit : BookWasVisited a b was now) (fit : IsFit op a s) (none : s.opened ≡ None) (then_none : t.opened ≡ None)
      (same : t.worker ≡ s.worker) (now_ordered : now.ordered ≡ was.ordered) (log : (room : ℕ) (es : List Entry) → IsLogOf room s es → IsLogOf room t es)
      (within : AreStepsWithin op.rooms t.at.outcome.steps) (body : IsBody op t t.at.phase) where
    abbrev after_place : Place
    after_place = record { gates = (book_place a s was).gates; book = now; session = t.at }

    are_left : AreLeft a b s t (book_place a s was) after_place
    are_left = none_left a b s t (book_place a s was) after_place (book_visit_gates a b was now visit now_ordered) refl log

    pub book_turn : (r : Result CodeEvent Stop) → Answers op a.book s t (book_place a s was) (record { gates = (book_place a s was).gates; book = now; session = t.at }) None r
        → HasMoved a.book s (book_place a s was) (record { gates = (book_place a s was).gates; book = now; session = t.at }) None r a.moves b.moves → TakesTurn op a b s t r
    book_turn r answers moved = record {
      has_turned =
          turned op a b s t (book_place a s was) after_place are_left (book_stands op a s was fit none visit.handed) fit same refl
          (subst (λ (o : Option OpenCommit). IsBookIn b o now) (sym then_none) (book_visit_told a b was now visit)) (now_ordered ∙ was_ordered a b was now visit)
          None (no_loss a b s (book_visit_lost a b was now visit)) r answers moved;
      is_fit =
          fits a b s t (book_place a s was) after_place are_left fit.acts same op fit within
          (subst (IsFitIn op b t) (sym then_none) (book_visit_free a b was now visit (free_of op a s fit none), body));
    }

  -- ---- a turn that finds a room held before it has left one

  module _ (op : Operator) (a b : RoomsView (Value T S)) (s t : SessionView) (room : ℕ) (loss : IsLost a b room) (fit : IsFit op a s) (none : s.opened ≡ None) (then_none : t.opened ≡ None)
      (same : t.worker ≡ s.worker) (needed : needs a.book s room ≡ true) (log : (other : ℕ) (es : List Entry) → IsLogOf other s es → IsLogOf other t es)
      (within : AreStepsWithin op.rooms t.at.outcome.steps) (body : IsBody op t t.at.phase) where
    abbrev lost_place : Place
    lost_place = record (base_place a s) { session = t.at }

    lost_left : AreLeft a b s t (base_place a s) lost_place
    lost_left = none_left a b s t (base_place a s) lost_place (lost_gates a b room loss) refl log

    lost_book : IsBookIn b None (base_place a s).book
    lost_book =
        let h : IsBookIn a None (base_place a s).book = subst (λ (o : Option OpenCommit). IsBookIn a o (base_place a s).book) none (base_stands op a s fit none).book in
        subst (λ (v : RoomsView (Value T S)). IsBookIn v None (base_place a s).book) (sym loss.same) h

    pub lost_turn : (r : Result CodeEvent Stop) → Answers op a.book s t (base_place a s) (record (base_place a s) { session = t.at }) (Some room) r
        → HasMoved a.book s (base_place a s) (record (base_place a s) { session = t.at }) (Some room) r a.moves b.moves → TakesTurn op a b s t r
    lost_turn r answers moved = record {
      has_turned =
          turned op a b s t (base_place a s) lost_place lost_left (base_stands op a s fit none) fit same refl
          (subst (λ (o : Option OpenCommit). IsBookIn b o (base_place a s).book) (sym then_none) lost_book) (base_stands op a s fit none).ordered
          (Some room) (one_loss a b s room loss needed) r answers moved;
      is_fit =
          fits a b s t (base_place a s) lost_place lost_left fit.acts same op fit within
          (subst (IsFitIn op b t) (sym then_none) ((λ other. ap (λ (v : RoomsView (Value T S)). is_room_held v other) loss.same ∙ free_of op a s fit none other), body));
    }
