-- Turns in which an iteration gives up.
use Rattle.std.specs.Prelude.{◌≡◌, ◌≢◌, ℕ, ◌<◌, Bool, true, false, ◌==◌, if◌then◌else◌, Option, Some, None, List, [], is_some, Result, refl}
use Rattle.std.proofs.Common.{sym, ◌∙◌, ap, subst}
use Rattle.gx_base.specs.declared.acts.Entry.{Entry}
use Rattle.gx_base.specs.Plans.{Operator}
use Rattle.gx_base.specs.Replays.{put}
use Rattle.gx_base.specs.RoomViews.{RoomView}
use Rattle.gate_core.specs.Views.{GateView}
use Rattle.commit_book.specs.BookViews.{BookView, put_back}
use Rattle.speculation.specs.Machines.{Place}
use Rattle.speculation.specs.Sessions.{has_no_step}
use Rattle.speculation.proofs.Putting.{numbers_equal}
use Rattle.speculation.proofs.Steps.{is_none}
use Rattle.rooms.specs.RoomsViews.{RoomsView, entries_for, told_with, visited, entered, left, is_room_held}
use Rattle.rooms.specs.HandedOut.{IsValueTold, IsLost, CountHasRisen}
use Rattle.rooms.specs.Values.{tells}
use Rattle.rooms.specs.declared.values.Value.{Value}
use Rattle.rooms.specs.declared.values.Value.TheVariants.{Object, Book}
use Rattle.rooms.proofs.CallerLemmas.{put_itself, put_other}
use Rattle.sessions.specs.declared.events.Event.{Event as CodeEvent}
use Rattle.sessions.specs.declared.events.Stop.{Stop}
use Rattle.sessions.specs.declared.session.Phase.{Phase as CodePhase}
use Rattle.sessions.specs.declared.session.Phase.TheVariants as code
use Rattle.sessions.specs.Needs.{needs}
use Rattle.sessions.specs.Places.{IsLogIn, IsLogOf, IsFit, AreStepsWithin, IfTold, book_of, IsBookIn, StandsOn}
use Rattle.sessions.specs.SessionViews.{OpenCommit, Rests, Core, SessionView, view_in}
use Rattle.sessions.specs.TurnMoves.{puts_back, at_book}
use Rattle.sessions.specs.Turns.{Answers, HasMoved, TakesTurn, IsLostIn}
use Rattle.sessions.specs.Visits.{WasVisited, BookWasVisited, GaveUp, has_calls, is_over, owes}
use Rattle.sessions.proofs.Standing.{AreLeft, fits, told_book, base_book_in, base_stands}
use Rattle.sessions.proofs.Visiting.{SameGates, same_gates, then_same, lost_gates, none_left}
use Rattle.sessions.proofs.Turning.{turned, no_loss, lost_moves, some_number, held_again}
use Rattle.sessions.proofs.BookTurns.{book_visit_gates, book_visit_free, book_visit_lost, book_visit_moves, book_visit_told}
use Rattle.sessions.proofs.UndoTurns.{over}

module _ {T S : Type 0} where
  -- nothing was changed but what can't be seen
  pub record Quiet (a x : RoomsView (Value T S)) : Type 0 where
    pub gates : SameGates a x
    pub free : (room : ℕ) → is_room_held x room ≡ false
    pub lost : (room : ℕ) → x.lost room ≡ a.lost room
    pub told_book : x.told x.book ≡ a.told a.book

  pub quiet_itself : (a : RoomsView (Value T S)) → ((room : ℕ) → is_room_held a room ≡ false) → Quiet a a
  quiet_itself a free = record { gates = same_gates a; free = free; lost = λ room. refl; told_book = refl }

  told_again : (o : Option (Value T S)) (g : GateView) → IsValueTold o (Object g) → told_with o (Object g) ≡ o
  told_again None g h = refl
  told_again (Some value) g h = ap Some h

  -- a gate was left as it was
  module _ (a x : RoomsView (Value T S)) (room : ℕ) (was : GateView) (visit : WasVisited a x room was was) (below : room < a.book) (free : (other : ℕ) → is_room_held a other ≡ false) where
    abbrev seen : RoomView
    seen = tells {T = T} {S = S} (Object was)

    same_live : put a.live room (entries_for a.acts_for was.live) ≡ a.live
    same_live = put_itself a.live room (entries_for a.acts_for was.live) (sym (visit.handed.live refl))

    same_told : put a.told room (told_with (a.told room) (Object was)) ≡ a.told
    same_told = put_itself a.told room (told_with (a.told room) (Object was)) (sym (told_again (a.told room) was visit.handed.told))

    x_of : {A : Type 0} → (f : RoomsView (Value T S) → A) → f x ≡ f (left tells (entered tells a room (Object was)) room (Object was))
    x_of f = ap f visit.visit

    x_told : (other : ℕ) → x.told other ≡ a.told other
    x_told other = x_of (λ v. v.told other) ∙ ap (λ f. f other) same_told

    pub quiet_visit : Quiet a x
    quiet_visit = record {
      gates = record {
        book = x_of (λ v. v.book);
        ordered = x_of (λ v. v.ordered);
        acts_for = x_of (λ v. v.acts_for);
        telling = ap (λ (o : Option (Value T S)). is_some o) (x_told a.book);
        ordered_told = λ l. subst (λ (o : Option (Value T S)). IfTold o (λ value. (book_of value).ordered ≡ a.ordered)) (sym (x_told a.book)) l;
        live = λ other l. x_of (λ v. v.live other) ∙ ap (λ f. f other) same_live;
        told = λ other l. x_told other;
      };
      free = λ other. ap (λ (f : ℕ → Option RoomView). is_some (f other)) (x_of (λ v. v.held)) ∙ held_again a.held room seen free other;
      lost = λ other. x_of (λ v. v.lost other);
      told_book = (λ i. x.told (x_of (λ v. v.book) i)) ∙ x_told a.book;
    }

  -- ---- giving up

  module _ {St : Type 0} (op : Operator) (a x b : RoomsView (Value T S)) (rest : Rests St) (s : SessionView) (c : Core) (quiet : Quiet a x) (fit : IsFit op a s) (none : s.opened ≡ None) (same : c.worker ≡ s.worker)
      (gates : ℕ → GateView) (stand : (bk : BookView) → IsBookIn a None bk → bk.ordered ≡ a.ordered → StandsOn a s (record { gates = gates; book = bk; session = s.at }))
      (log : (room : ℕ) (es : List Entry) → IsLogOf room s es → IsLogIn room c.worker c.iter c.item c.log es) (within : AreStepsWithin op.rooms c.log) (needed : has_no_step c.log ≡ true → needs a.book s a.book ≡ true) where
    abbrev undoing : SessionView
    undoing = view_in rest c code.Undoing

    abbrev ended : SessionView
    ended = view_in rest (over c) code.Idle

    abbrev base : BookView
    base = base_book_in a None

    abbrev place : BookView → SessionView → Place
    place bk t = record { gates = gates; book = bk; session = t.at }

    base_in : IsBookIn a None base
    base_in = subst (λ (o : Option OpenCommit). IsBookIn a o (base_book_in a o)) none (base_stands op a s fit none).book

    base_ordered : base.ordered ≡ a.ordered
    base_ordered = ap (λ (o : Option OpenCommit). (base_book_in a o).ordered) (sym none) ∙ (base_stands op a s fit none).ordered

    empty : has_no_step c.log ≡ true → c.log ≡ []
    empty e = is_none c.log e

    told_after : (bk : BookView) → b.told b.book ≡ a.told a.book → IsBookIn a None bk → IsBookIn b None bk
    told_after bk e h = subst (λ (o : Option (Value T S)). IfTold o (λ value. bk ≡ book_of value)) (sym e) h

    -- what becomes of the book's room
    abbrev Back : Option ℕ → (bk now : BookView) → Type 0
    Back lost bk now = b.moves ≡ puts_back a.book gates gates bk now c.log lost x.moves

    calls_turn : has_no_step c.log ≡ false → b ≡ x → (r : Result CodeEvent Stop) → Answers op a.book s undoing (place base s) (place base undoing) None r
        → (Back None base base → HasMoved a.book s (place base s) (place base undoing) None r a.moves b.moves) → TakesTurn op a b s undoing r
    calls_turn n e r answers moved =
        let h : SameGates a b = subst (SameGates a) (sym e) quiet.gates in
        let l : AreLeft a b s undoing (place base s) (place base undoing) = none_left a b s undoing (place base s) (place base undoing) h refl log in
        record {
          has_turned =
              turned op a b s undoing (place base s) (place base undoing) l (stand base base_in base_ordered) fit same refl
              (told_after base (ap (λ (v : RoomsView (Value T S)). v.told v.book) e ∙ quiet.told_book) base_in) base_ordered None
              (no_loss a b s (λ room. ap (λ (v : RoomsView (Value T S)). v.lost room) e ∙ quiet.lost room)) r answers
              (moved (ap (λ (v : RoomsView (Value T S)). v.moves) e ∙ sym (ap (λ (k : Bool). if k then at_book a.book gates gates base base x.moves else x.moves) n)));
          is_fit = fits a b s undoing (place base s) (place base undoing) l fit.acts same op fit within ((λ room. ap (λ (v : RoomsView (Value T S)). is_room_held v room) e ∙ quiet.free room), tt);
        }

    over_turn : (was : BookView) → has_no_step c.log ≡ true → BookWasVisited x b was (put_back was c.worker c.iter) → (r : Result CodeEvent Stop)
        → Answers op a.book s ended (place was s) (place (put_back was c.worker c.iter) ended) None r
        → (Back None was (put_back was c.worker c.iter) → HasMoved a.book s (place was s) (place (put_back was c.worker c.iter) ended) None r a.moves b.moves) → TakesTurn op a b s ended r
    over_turn was e visit r answers moved =
        let now : BookView = put_back was c.worker c.iter in
        let ordered : was.ordered ≡ a.ordered = visit.handed.suits.ordered_as refl ∙ quiet.gates.ordered in
        let h : SameGates a b = then_same a x b quiet.gates (book_visit_gates x b was now visit refl) in
        let l : AreLeft a b s ended (place was s) (place now ended) =
        none_left a b s ended (place was s) (place now ended) h refl (λ room es k. subst (λ steps. IsLogIn room c.worker c.iter c.item steps es) (empty e) (log room es k)) in
        record {
          has_turned =
              turned op a b s ended (place was s) (place now ended) l
              (stand was (subst (λ (o : Option (Value T S)). IfTold o (λ value. was ≡ book_of value)) quiet.told_book (told_book (x.told x.book) was visit.handed.told)) ordered) fit same refl
              (book_visit_told x b was now visit) ordered None (no_loss a b s (λ room. book_visit_lost x b was now visit room ∙ quiet.lost room)) r answers
              (moved (book_visit_moves x b was now visit ∙ ap (λ n. visited n (Book was) (Book now) x.moves) quiet.gates.book ∙ sym (ap (λ (k : Bool). if k then at_book a.book gates gates was now x.moves else x.moves) e)));
          is_fit = fits a b s ended (place was s) (place now ended) l fit.acts same op fit tt (book_visit_free x b was now visit quiet.free, refl);
        }

    x_book : x.book ≡ a.book
    x_book = quiet.gates.book

    others_by : IsLost x b x.book → (other : ℕ) → Some a.book ≢ Some other → (k : Bool) → (a.book == other) ≡ k → b.lost other ≡ a.lost other
    others_by h other n true e = absurd (n (ap Some (numbers_equal a.book other e)))
    others_by h other n false e = ap (λ (v : RoomsView (Value T S)). v.lost other) h.same ∙ put_other x.lost x.book (b.lost x.book) other (ap (λ m. m == other) x_book ∙ e) ∙ quiet.lost other

    risen : IsLost x b x.book → CountHasRisen (a.lost a.book) (b.lost a.book)
    risen h = subst (λ n. CountHasRisen n (b.lost a.book)) (quiet.lost a.book) (subst (λ n. CountHasRisen (x.lost n) (b.lost n)) x_book h.risen)

    quiet_loss : IsLost x b x.book → needs a.book s a.book ≡ true → IsLostIn a b s (Some a.book)
    quiet_loss h n = record {
      needed = λ other e. subst (λ r. needs a.book s r ≡ true) (some_number e) n;
      risen = λ other e. subst (λ r. CountHasRisen (a.lost r) (b.lost r)) (some_number e) (risen h);
      others = λ other m. others_by h other m (a.book == other) refl;
    }

    owes_turn : has_no_step c.log ≡ true → IsLost x b x.book → (r : Result CodeEvent Stop) → Answers op a.book s undoing (place base s) (place base undoing) (Some a.book) r
        → (Back (Some a.book) base base → HasMoved a.book s (place base s) (place base undoing) (Some a.book) r a.moves b.moves) → TakesTurn op a b s undoing r
    owes_turn e loss r answers moved =
        let h : SameGates a b = then_same a x b quiet.gates (lost_gates x b x.book loss) in
        let l : AreLeft a b s undoing (place base s) (place base undoing) = none_left a b s undoing (place base s) (place base undoing) h refl log in
        record {
          has_turned =
              turned op a b s undoing (place base s) (place base undoing) l (stand base base_in base_ordered) fit same refl
              (told_after base (ap (λ (v : RoomsView (Value T S)). v.told v.book) loss.same ∙ quiet.told_book) base_in) base_ordered (Some a.book)
              (quiet_loss loss (needed e)) r answers (moved (lost_moves x b x.book loss));
          is_fit = fits a b s undoing (place base s) (place base undoing) l fit.acts same op fit within ((λ room. ap (λ (v : RoomsView (Value T S)). is_room_held v room) loss.same ∙ quiet.free room), tt);
        }

    -- an iteration has given up, and so its turn ends
    pub gave_up_turn : (old new : Core) (phase : CodePhase St) → old ≡ c → GaveUp x b old new phase → (r : Result CodeEvent Stop)
        → (has_no_step c.log ≡ false → Answers op a.book s undoing (place base s) (place base undoing) None r)
        → ((was : BookView) → has_no_step c.log ≡ true → was.ordered ≡ a.ordered → Answers op a.book s ended (place was s) (place (put_back was c.worker c.iter) ended) None r)
        → (has_no_step c.log ≡ true → Answers op a.book s undoing (place base s) (place base undoing) (Some a.book) r)
        → ((lost : Option ℕ) (bk now : BookView) (t : SessionView) → Back lost bk now → HasMoved a.book s (place bk s) (place now t) lost r a.moves b.moves) → TakesTurn op a b s (view_in rest new phase) r
    gave_up_turn old new phase o (has_calls n e is p) r calls overs owed moved =
        let m : has_no_step c.log ≡ false = subst (λ (k : Core). has_no_step k.log ≡ false) o n in
        subst (λ (f : CodePhase St). TakesTurn op a b s (view_in rest new f) r) (sym p) (subst (λ (k : Core). TakesTurn op a b s (view_in rest k code.Undoing) r) (sym (is ∙ o)) (calls_turn m e r (calls m) (moved None base base undoing)))
    gave_up_turn old new phase o (is_over was n visit is p) r calls overs owed moved =
        let m : has_no_step c.log ≡ true = subst (λ (k : Core). has_no_step k.log ≡ true) o n in
        let v : BookWasVisited x b was (put_back was c.worker c.iter) = subst (λ (k : Core). BookWasVisited x b was (put_back was k.worker k.iter)) o visit in
        subst (λ (f : CodePhase St). TakesTurn op a b s (view_in rest new f) r) (sym p)
        (subst (λ (k : Core). TakesTurn op a b s (view_in rest k code.Idle) r) (sym (is ∙ ap over o)) (over_turn was m v r (overs was m (visit.handed.suits.ordered_as refl ∙ quiet.gates.ordered)) (moved None was (put_back was c.worker c.iter) ended)))
    gave_up_turn old new phase o (owes n loss is p) r calls overs owed moved =
        let m : has_no_step c.log ≡ true = subst (λ (k : Core). has_no_step k.log ≡ true) o n in
        subst (λ (f : CodePhase St). TakesTurn op a b s (view_in rest new f) r) (sym p) (subst (λ (k : Core). TakesTurn op a b s (view_in rest k code.Undoing) r) (sym (is ∙ o)) (owes_turn m loss r (owed m) (moved (Some a.book) base base undoing)))
