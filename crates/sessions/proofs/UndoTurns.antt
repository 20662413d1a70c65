-- The turns of a session that undoes.
use Rattle.std.specs.Prelude.{◌≡◌, ◌≢◌, ℕ, ◌<◌, Bool, true, false, not, ◌||◌, ◌==◌, if◌then◌else◌, Option, Some, None, List, [], ◌∷◌, ◌++◌, length, IsSome, Ok, refl}
use Rattle.std.proofs.Common.{sym, ◌∙◌, ap, subst, arith}
use Rattle.std.proofs.lemmas.List.{append-nil}
use Rattle.std.specs.Option.{option_to_list}
use Rattle.gx_base.specs.declared.acts.Entry.{Entry}
use Rattle.gx_base.specs.declared.acts.Step.{Step}
use Rattle.gx_base.specs.Plans.{Operator}
use Rattle.gx_base.specs.Replays.{put}
use Rattle.gate_core.specs.Views.{GateView, undo_last}
use Rattle.commit_book.specs.BookViews.{BookView, put_back}
use Rattle.speculation.specs.Events as event
use Rattle.speculation.specs.Machines.{Place, Turned, let_go, undo_step, turn_at}
use Rattle.speculation.specs.Sessions.{ended, undone_to, last_step, steps_before, has_no_step}
use Rattle.speculation.proofs.Putting.{both_are, same_number}
use Rattle.speculation.proofs.Steps.{last_is_none, last_is_last, is_none}
use Rattle.speculation.proofs.GateTurns.{log_undoes, log_back_elsewhere}
use Rattle.rooms.specs.RoomsViews.{RoomsView, entered, left, is_room_held}
use Rattle.rooms.specs.HandedOut.{IsHandedOut, IsLost}
use Rattle.rooms.specs.declared.values.Value.{Value}
use Rattle.rooms.specs.declared.values.Value.TheVariants.{Book}
use Rattle.rooms.specs.Values.{tells}
use Rattle.sessions.specs.declared.events.Event.TheVariants as events
use Rattle.sessions.specs.declared.session.Phase.{Phase as CodePhase}
use Rattle.sessions.specs.declared.session.Phase.TheVariants as code
use Rattle.sessions.specs.Needs.{needs, is_last, to_put_back}
use Rattle.sessions.specs.Places.{IsLogIn, IsLogOf, IsFit, AreStepsWithin, IsBookIn, StandsOn}
use Rattle.sessions.specs.SessionViews.{Rests, Core, SessionView, view_in}
use Rattle.sessions.specs.TurnMoves.{at_gate, at_book, enters_book, leaves_book}
use Rattle.sessions.specs.Turns.{TakesTurn}
use Rattle.sessions.specs.Visits.{BookWasVisited, WasVisited}
use Rattle.sessions.proofs.Logs.{log_sound, sound_log, others_undo}
use Rattle.sessions.proofs.Standing.{AreLeft, fits, told_book, base_place, base_gates, base_book_in, base_stands}
use Rattle.sessions.proofs.Visiting.{SameGates, other_than_book, none_left, same_gates}
use Rattle.sessions.proofs.Turning.{whole, no_loss, lost_moves, turned}
use Rattle.sessions.proofs.GateVisits.{gate_place, gate_turn, gate_log, visited_at, gate_visit_free, gate_visit_lost, gate_visit_moves, gate_visit_book}
use Rattle.rooms.proofs.CallerLemmas.{put_same}
use Rattle.sessions.proofs.NestedVisits.{LostNested, lost_nested, nested_loss, nested_before, nested_after, nested_told, nested_lost, nested_moves, nested_free}
use Rattle.sessions.proofs.BookTurns.{free_of, book_visit_moves, book_stands, book_place, book_turn, lost_turn}

some_same : {x y : Step} → Some x ≡ Some y → x ≡ y
some_same e = cc

pub unless_true : (b : Bool) (x y : Place) → b ≡ false → (if b then x else y) ≡ y
unless_true true x y e = absurd (cc)
unless_true false x y e = refl

pub where_true : (b : Bool) (x y : Place) → b ≡ true → (if b then x else y) ≡ x
where_true true x y e = refl
where_true false x y e = absurd (cc)

pub or_right : (x y : Bool) → y ≡ true → (x || y) ≡ true
or_right true y e = refl
or_right false y e = e

pub or_left : (x y : Bool) → x ≡ true → (x || y) ≡ true
or_left true y e = refl
or_left false y e = absurd (cc)

-- a view with no entries for the lists of an undone iteration
abbrev pub over : Core → Core
over c = record c { log = []; pushes = [] }

-- without the last call
abbrev pub less : Core → Core
less c = record c { log = steps_before c.log; pushes = [] }

module _ {T S St : Type 0} (op : Operator) (a b : RoomsView (Value T S)) (rest : Rests St) (c : Core) where
  abbrev undoing_view : SessionView
  undoing_view = view_in rest c code.Undoing

  abbrev over_view : SessionView
  over_view = view_in rest (over c) code.Idle

  -- what the machine does, by the last of the steps
  undoes : (gates : ℕ → GateView) (bk : BookView) (o : Option Step) → last_step c.log ≡ o
      → turn_at op (record { gates = gates; book = bk; session = undoing_view.at }) c.worker ≡ undo_step (record { gates = gates; book = bk; session = undoing_view.at }) c.worker undoing_view.at o
  unfolding turn_at
  undoes gates bk o l = ap (undo_step (record { gates = gates; book = bk; session = undoing_view.at }) c.worker undoing_view.at) l

  no_log : c.log ≡ [] → (room : ℕ) (es : List Entry) → IsLogOf room undoing_view es → IsLogOf room over_view es
  no_log e room es h = subst (λ steps. IsLogIn room c.worker c.iter c.item steps es) e h

  needs_book : (book : ℕ) → has_no_step (steps_before c.log) ≡ true → needs book undoing_view book ≡ true
  needs_book book e = or_right (is_last (last_step c.log) book) (to_put_back book (steps_before c.log) book) (both_are (has_no_step (steps_before c.log)) (book == book) e (same_number book))

  needs_room : (book : ℕ) (last : Step) → last_step c.log ≡ Some last → needs book undoing_view last.room ≡ true
  needs_room book last e = or_left (is_last (last_step c.log) last.room) (to_put_back book (steps_before c.log) last.room) (ap (λ (o : Option Step). is_last o last.room) e ∙ same_number last.room)

  none_before : (steps : List Step) → last_step steps ≡ None → has_no_step (steps_before steps) ≡ true
  none_before steps e = ap (λ xs. has_no_step (steps_before xs)) (last_is_none steps e)

  -- nothing is entered before a held room that is sought first
  busy : (room : ℕ) → IsFit op a undoing_view → IsLost a b room → needs a.book undoing_view room ≡ true → ((a.book == room) || not (has_no_step (steps_before c.log))) ≡ true → TakesTurn op a b undoing_view undoing_view (Ok events.Busy)
  busy room fit loss needed first =
      let p : Place = base_place a undoing_view in
      lost_turn op a b undoing_view undoing_view room loss fit refl refl refl needed (λ other es h. h) fit.within tt (Ok events.Busy)
      (record { event_is = refl; place_is = refl; opened_is = refl; pushed_is = refl }, tt, tt)
      (lost_moves a b room loss ∙ sym (ap (λ (k : Bool). if k then a.moves else at_book a.book p.gates p.gates p.book p.book a.moves) first))

  book_first : ((a.book == a.book) || not (has_no_step (steps_before c.log))) ≡ true
  book_first = ap (λ (k : Bool). k || not (has_no_step (steps_before c.log))) (same_number a.book)

  pub put_back_late : IsFit op a undoing_view → last_step c.log ≡ None → (was : BookView) → BookWasVisited a b was (put_back was c.worker c.iter) → TakesTurn op a b undoing_view over_view (Ok events.Idle)
  put_back_late fit none was visit =
      let empty : c.log ≡ [] = last_is_none c.log none in
      let s : SessionView = undoing_view in
      let t : SessionView = over_view in
      let p : Place = book_place a s was in
      let u : Turned = record { event = event.Idle; place = let_go p c.worker s.at } in
      book_turn op a b s t was (put_back was c.worker c.iter) visit fit refl refl refl refl (no_log empty) tt refl (Ok events.Idle)
      (whole op a b s t p (let_go p c.worker s.at) u events.Idle (undoes p.gates was None none) refl refl refl refl refl refl tt) (book_visit_moves a b was (put_back was c.worker c.iter) visit)

  pub put_back_lost : IsFit op a undoing_view → last_step c.log ≡ None → IsLost a b a.book → TakesTurn op a b undoing_view undoing_view (Ok events.Busy)
  put_back_lost fit none loss = busy a.book fit loss (needs_book a.book (none_before c.log none)) book_first

  -- ---- a call is taken back, and others are left

  abbrev before : Core
  before = less c

  abbrev less_view : SessionView
  less_view = view_in rest before code.Undoing

  undone_log : (last : Step) → last_step c.log ≡ Some last → (g : GateView) → IsLogOf last.room undoing_view g.live → IsLogOf last.room less_view (undo_last g c.worker c.iter).live
  undone_log last e g h =
      let l : IsLogIn last.room c.worker c.iter c.item (steps_before c.log ++ last ∷ []) g.live = subst (λ steps. IsLogIn last.room c.worker c.iter c.item steps g.live) (last_is_last c.log last e) h in
      sound_log last.room c.worker c.iter c.item (steps_before c.log) (undo_last g c.worker c.iter).live
      (log_undoes c.worker c.iter c.item g (steps_before c.log) last (log_sound last.room c.worker c.iter c.item (steps_before c.log ++ last ∷ []) g.live l))

  undone_elsewhere : (last : Step) → last_step c.log ≡ Some last → (other : ℕ) → (last.room == other) ≡ false → (es : List Entry) → IsLogOf other undoing_view es → IsLogOf other less_view es
  undone_elsewhere last e other n es h =
      let l : IsLogIn other c.worker c.iter c.item (steps_before c.log ++ last ∷ []) es = subst (λ steps. IsLogIn other c.worker c.iter c.item steps es) (last_is_last c.log last e) h in
      sound_log other c.worker c.iter c.item (steps_before c.log) es (log_back_elsewhere c.worker c.iter c.item last other (steps_before c.log) es n (log_sound other c.worker c.iter c.item (steps_before c.log ++ last ∷ []) es l))

  within_before : (rooms : ℕ) (steps : List Step) → AreStepsWithin rooms steps → AreStepsWithin rooms (steps_before steps)
  within_before rooms [] h = tt
  within_before rooms (x ∷ []) h = tt
  within_before rooms (x ∷ y ∷ ys) h = (h.0, within_before rooms (y ∷ ys) h.1)

  pub within_last : (rooms : ℕ) (steps : List Step) (last : Step) → last_step steps ≡ Some last → AreStepsWithin rooms steps → last.room < rooms
  within_last rooms [] last e h = absurd (cc)
  within_last rooms (x ∷ []) last e h = let same : x ≡ last = some_same e in subst (λ (y : Step). y.room < rooms) same h.0
  within_last rooms (x ∷ y ∷ ys) last e h = within_last rooms (y ∷ ys) last e h.1

  pub in_range : (f : CodePhase St) → f ≡ code.Undoing → IsFit op a (view_in rest c f) → (last : Step) → last_step c.log ≡ Some last → last.room < a.book
  in_range f e fit last l =
      let h : IsFit op a undoing_view = subst (λ x. IsFit op a (view_in rest c x)) e fit in
      subst (λ n. last.room < n) (sym h.book) (within_last op.rooms c.log last l h.within)

  pub nothing_held : (f : CodePhase St) → f ≡ code.Undoing → IsFit op a (view_in rest c f) → (room : ℕ) → is_room_held a room ≡ false
  nothing_held f e fit = free_of op a undoing_view (subst (λ x. IsFit op a (view_in rest c x)) e fit) refl

  pub undo_one : IsFit op a undoing_view → (last : Step) → last_step c.log ≡ Some last → has_no_step (steps_before c.log) ≡ false → (was : GateView) → WasVisited a b last.room was (undo_last was c.worker c.iter)
      → TakesTurn op a b undoing_view less_view (Ok (events.Undo last.room last.call))
  undo_one fit last e others was visit =
      let s : SessionView = undoing_view in
      let t : SessionView = less_view in
      let below : last.room < a.book = subst (λ n. last.room < n) (sym fit.book) (within_last op.rooms c.log last e fit.within) in
      let bk : BookView = base_book_in a None in
      let p : Place = gate_place a s last.room was bk in
      let free : (room : ℕ) → is_room_held a room ≡ false = free_of op a s fit refl in
      let base : StandsOn a s (base_place a s) = base_stands op a s fit refl in
      let q : Place = record { gates = put (put (base_gates a) last.room was) last.room (undo_last was c.worker c.iter); book = bk; session = t.at } in
      let u : Turned = undo_step p c.worker s.at (Some last) in
      let same_gate : undo_last was c.worker c.iter ≡ undo_last (put (base_gates a) last.room was last.room) c.worker c.iter = ap (λ g. undo_last g c.worker c.iter) (sym (put_same (base_gates a) last.room was)) in
      gate_turn op a a b b s t last.room was (undo_last was c.worker c.iter) (same_gates a) visit (same_gates b) fit refl refl below bk bk base.book base.ordered
      (gate_visit_book a b last.room was (undo_last was c.worker c.iter) visit below bk base.book) base.ordered None (no_loss a b s (gate_visit_lost a b last.room was (undo_last was c.worker c.iter) visit))
      (undone_log last e was (gate_log op a a s last.room was (same_gates a) visit.handed fit refl below bk base.book base.ordered)) (others_undo c.worker c.iter was) (undone_elsewhere last e)
      (within_before op.rooms c.log fit.within) (gate_visit_free a b last.room was (undo_last was c.worker c.iter) visit free, tt)
      (Ok (events.Undo last.room last.call))
      (whole op a b s t p q u (events.Undo last.room last.call) (undoes p.gates bk (Some last) e) refl refl
      ((λ i. record { gates = put (put (base_gates a) last.room was) last.room (same_gate i); book = bk; session = t.at }) ∙ sym (unless_true (has_no_step (steps_before c.log)) (record { gates = put p.gates last.room (undo_last (p.gates last.room) c.worker c.iter); book = put_back bk c.worker c.iter; session = ended s.at })
      (record { gates = put p.gates last.room (undo_last (p.gates last.room) c.worker c.iter); book = bk; session = t.at }) others)) refl refl refl tt)
      (gate_visit_moves a b last.room was (undo_last was c.worker c.iter) visit ∙ visited_at a last.room was (undo_last was c.worker c.iter) a.moves
      ∙ sym (ap (λ (k : Bool). if k then leaves_book a.book p.gates q.gates bk bk (at_gate a.book p.gates q.gates bk bk last.room (enters_book a.book p.gates q.gates bk bk a.moves)) else at_gate a.book p.gates q.gates bk bk last.room a.moves) others))

  pub undo_one_lost : IsFit op a undoing_view → (last : Step) → last_step c.log ≡ Some last → has_no_step (steps_before c.log) ≡ false → IsLost a b last.room → TakesTurn op a b undoing_view undoing_view (Ok events.Busy)
  undo_one_lost fit last e others loss = busy last.room fit loss (needs_room a.book last e) (or_right (a.book == last.room) (not (has_no_step (steps_before c.log))) (ap not others))

  -- the only call's log is empty before it
  only_before : has_no_step (steps_before c.log) ≡ true → steps_before c.log ≡ []
  only_before only = is_none (steps_before c.log) only

  over_log : (last : Step) → last_step c.log ≡ Some last → has_no_step (steps_before c.log) ≡ true → (g : GateView) → IsLogOf last.room undoing_view g.live → IsLogOf last.room over_view (undo_last g c.worker c.iter).live
  over_log last e only g h = subst (λ steps. IsLogIn last.room c.worker c.iter c.item steps (undo_last g c.worker c.iter).live) (only_before only) (undone_log last e g h)

  over_elsewhere : (last : Step) → last_step c.log ≡ Some last → has_no_step (steps_before c.log) ≡ true → (other : ℕ) → (last.room == other) ≡ false → (es : List Entry) → IsLogOf other undoing_view es → IsLogOf other over_view es
  over_elsewhere last e only other n es h = subst (λ steps. IsLogIn other c.worker c.iter c.item steps es) (only_before only) (undone_elsewhere last e other n es h)

  -- ---- the only call is taken back, and the item put back

  pub undo_only : (x y : RoomsView (Value T S)) (seen : BookView) (last : Step) → IsFit op a undoing_view → last_step c.log ≡ Some last → has_no_step (steps_before c.log) ≡ true
      → IsHandedOut tells a a.book (Book seen) → x ≡ entered tells a a.book (Book seen) → (was : GateView) → WasVisited x y last.room was (undo_last was c.worker c.iter)
      → b ≡ left tells y y.book (Book (put_back seen c.worker c.iter)) → TakesTurn op a b undoing_view over_view (Ok (events.Undo last.room last.call))
  undo_only x y seen last fit e only handed enters was visit leaves =
      let s : SessionView = undoing_view in
      let t : SessionView = over_view in
      let below : last.room < a.book = subst (λ n. last.room < n) (sym fit.book) (within_last op.rooms c.log last e fit.within) in
      let now : BookView = put_back seen c.worker c.iter in
      let p : Place = gate_place a s last.room was seen in
      let q : Place = record { gates = put (put (base_gates a) last.room was) last.room (undo_last was c.worker c.iter); book = now; session = t.at } in
      let u : Turned = undo_step p c.worker s.at (Some last) in
      let in_book : IsBookIn a None seen = told_book (a.told a.book) seen handed.told in
      let seen_ordered : seen.ordered ≡ a.ordered = handed.suits.ordered_as refl in
      let before_gates : SameGates a x = nested_before a x y b last.room seen now was (undo_last was c.worker c.iter) handed enters visit leaves in
      let same_gate : undo_last was c.worker c.iter ≡ undo_last (put (base_gates a) last.room was last.room) c.worker c.iter = ap (λ g. undo_last g c.worker c.iter) (sym (put_same (base_gates a) last.room was)) in
      gate_turn op a x y b s t last.room was (undo_last was c.worker c.iter) before_gates visit (nested_after a x y b last.room seen now was (undo_last was c.worker c.iter) handed enters visit leaves refl) fit refl refl below
      seen now in_book seen_ordered (nested_told a x y b last.room seen now was (undo_last was c.worker c.iter) handed enters visit leaves) seen_ordered None
      (no_loss a b s (nested_lost a x y b last.room seen now was (undo_last was c.worker c.iter) handed enters visit leaves))
      (over_log last e only was (gate_log op a x s last.room was before_gates visit.handed fit refl below seen in_book seen_ordered)) (others_undo c.worker c.iter was) (over_elsewhere last e only)
      tt (nested_free a x y b last.room seen now was (undo_last was c.worker c.iter) handed enters visit leaves (free_of op a s fit refl), refl)
      (Ok (events.Undo last.room last.call))
      (whole op a b s t p q u (events.Undo last.room last.call) (undoes p.gates seen (Some last) e) refl refl
      ((λ i. record { gates = put (put (base_gates a) last.room was) last.room (same_gate i); book = now; session = t.at })
      ∙ sym (where_true (has_no_step (steps_before c.log)) (record { gates = put p.gates last.room (undo_last (p.gates last.room) c.worker c.iter); book = now; session = t.at })
      (record { gates = put p.gates last.room (undo_last (p.gates last.room) c.worker c.iter); book = seen; session = undone_to s.at (steps_before c.log) }) only)) refl refl refl tt)
      (nested_moves a x y b last.room seen now was (undo_last was c.worker c.iter) handed enters visit leaves
      ∙ ap (leaves_book a.book p.gates q.gates seen now) (visited_at a last.room was (undo_last was c.worker c.iter) (enters_book a.book p.gates q.gates seen now a.moves))
      ∙ sym (ap (λ (k : Bool). if k then leaves_book a.book p.gates q.gates seen now (at_gate a.book p.gates q.gates seen now last.room (enters_book a.book p.gates q.gates seen now a.moves)) else at_gate a.book p.gates q.gates seen now last.room a.moves) only))

  pub undo_only_busy : IsFit op a undoing_view → has_no_step (steps_before c.log) ≡ true → IsLost a b a.book → TakesTurn op a b undoing_view undoing_view (Ok events.Busy)
  undo_only_busy fit only loss = busy a.book fit loss (needs_book a.book only) book_first

  -- the book was entered, but the call's room is held
  pub undo_only_lost : (x y : RoomsView (Value T S)) (seen : BookView) (last : Step) → IsFit op a undoing_view → last_step c.log ≡ Some last → has_no_step (steps_before c.log) ≡ true → IsHandedOut tells a a.book (Book seen)
      → x ≡ entered tells a a.book (Book seen) → IsLost x y last.room → b ≡ left tells y y.book (Book seen) → TakesTurn op a b undoing_view undoing_view (Ok events.Busy)
  undo_only_lost x y seen last fit e only handed enters loss leaves =
      let s : SessionView = undoing_view in
      let p : Place = book_place a s seen in
      let l : LostNested a b last.room seen = lost_nested a x y b last.room seen handed enters loss leaves (free_of op a s fit refl) in
      let h : AreLeft a b s s p p = none_left a b s s p p l.gates refl (λ other es k. k) in
      record {
        has_turned =
            turned op a b s s p p h (book_stands op a s seen fit refl handed) fit refl refl l.told (handed.suits.ordered_as refl) (Some last.room)
            (nested_loss a b s last.room l (needs_room a.book last e)) (Ok events.Busy) (record { event_is = refl; place_is = refl; opened_is = refl; pushed_is = refl }, tt, tt)
            (l.moves ∙ sym (ap (λ (k : Bool). if k then a.moves else at_book a.book p.gates p.gates seen seen a.moves)
            ((λ i. other_than_book a.book last.room (subst (λ n. last.room < n) (sym fit.book) (within_last op.rooms c.log last e fit.within)) i || not (only i)))));
        is_fit = fits a b s s p p h fit.acts refl op fit fit.within (l.free, tt);
      }

-- ---- how many calls there are

pub others_before : (steps : List Step) (last : Step) → last_step steps ≡ Some last → length steps ≢ 1 → has_no_step (steps_before steps) ≡ false
others_before [] last e n = absurd (cc)
others_before (x ∷ []) last e n = absurd (n refl)
others_before (x ∷ y ∷ ys) last e n = refl

pub none_before_only : (steps : List Step) → length steps ≡ 1 → has_no_step (steps_before steps) ≡ true
none_before_only [] e = refl
none_before_only (x ∷ []) e = refl
none_before_only (x ∷ y ∷ ys) e = absurd (omega arith)

pub before_push : (steps : List Step) (x : Step) → steps_before (steps ++ x ∷ []) ≡ steps
before_push [] x = refl
before_push (y ∷ []) x = refl
before_push (y ∷ z ∷ zs) x = ap (λ ys. y ∷ ys) (before_push (z ∷ zs) x)

popped_none : (was now : List Step) → was ≡ now → (0 < length was → ⊥) → now ≡ steps_before was
popped_none [] now e s = sym e
popped_none (x ∷ xs) now e s = absurd (s (omega arith))

pub popped : (was now : List Step) (o : Option Step) → was ≡ now ++ option_to_list o → (0 < length was → IsSome o) → now ≡ steps_before was
popped was now None e s = popped_none was now (e ∙ append-nil now) (λ l. let f : false ≡ true = s l in absurd (cc))
popped was now (Some x) e s = sym (ap steps_before e ∙ before_push now x)
