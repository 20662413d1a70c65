-- The turns of an idle session.
use Rattle.std.specs.Prelude.{◌≡◌, ℕ, Option, Some, None, List, [], Ok, Err, refl}
use Rattle.std.proofs.Common.{sym, ◌∙◌, ap, subst}
use Rattle.gx_base.specs.declared.acts.Entry.{Entry}
use Rattle.gx_base.specs.declared.items.Item.{Item}
use Rattle.gx_base.specs.BodyRuns.{RunsTo, begun}
use Rattle.gx_base.specs.Plans.{Operator}
use Rattle.gx_base.specs.Replays.{part}
use Rattle.gate_core.specs.Entries.{mades_of, entries_of}
use Rattle.gate_core.specs.Views.{GateView}
use Rattle.commit_book.specs.BookViews.{BookView, free_item, next_free, give_found}
use Rattle.speculation.specs.Events as event
use Rattle.speculation.specs.Machines.{Place, Turned, take, turn_at}
use Rattle.speculation.specs.Sessions.{Running}
use Rattle.speculation.proofs.Putting.{same_number}
use Rattle.speculation.proofs.IterationEntries.{Fresh, fresh, no_mades}
use Rattle.rooms.specs.RoomsViews.{RoomsView}
use Rattle.rooms.specs.HandedOut.{IsLost}
use Rattle.rooms.specs.declared.values.Value.{Value}
use Rattle.sessions.specs.declared.events.Event.TheVariants as events
use Rattle.sessions.specs.declared.events.Stop.TheVariants as stops
use Rattle.sessions.specs.declared.session.Phase.{Phase as CodePhase}
use Rattle.sessions.specs.declared.session.Phase.TheVariants as code
use Rattle.sessions.specs.Places.{IsLogOf, IsFit}
use Rattle.sessions.specs.SessionViews.{Rests, Core, SessionView, view_in, log_of, begins, IsBegun}
use Rattle.sessions.specs.TurnMoves.{in_book}
use Rattle.sessions.specs.Turns.{TakesTurn}
use Rattle.sessions.specs.Visits.{BookWasVisited}
use Rattle.sessions.proofs.Turning.{whole, lost_moves}
use Rattle.sessions.proofs.BookTurns.{body_of, book_visit_moves, book_place, book_turn, lost_turn}

pub found_ordered : (b : BookView) (worker iter : ℕ) (o : Option Item) → (give_found b worker iter o).ordered ≡ b.ordered
found_ordered b worker iter None = refl
found_ordered b worker iter (Some item) = refl

module _ {T S St : Type 0} (op : Operator) (a b : RoomsView (Value T S)) (rest : Rests St) (c : Core) where
  abbrev idle_view : SessionView
  idle_view = view_in rest c code.Idle

  takes : (gates : ℕ → GateView) (bk : BookView) (o : Option Item) → free_item bk ≡ o
      → turn_at op (record { gates = gates; book = bk; session = idle_view.at }) c.worker ≡ take op (record { gates = gates; book = bk; session = idle_view.at }) c.worker o
  unfolding turn_at
  takes gates bk o l = ap (take op (record { gates = gates; book = bk; session = idle_view.at }) c.worker) l

  no_calls : IsFit op a idle_view → c.log ≡ []
  no_calls fit = body_of op a idle_view fit refl

  pub take_lost : IsFit op a idle_view → IsLost a b a.book → TakesTurn op a b idle_view idle_view (Ok events.Busy)
  take_lost fit loss =
      lost_turn op a b idle_view idle_view a.book loss fit refl refl refl (same_number a.book) (λ other es h. h) fit.within (no_calls fit) (Ok events.Busy)
      (record { event_is = refl; place_is = refl; opened_is = refl; pushed_is = refl }, tt, tt) (lost_moves a b a.book loss)

  pub take_none : IsFit op a idle_view → (was : BookView) → BookWasVisited a b was was → free_item was ≡ None → TakesTurn op a b idle_view idle_view (Ok events.Idle)
  take_none fit was visit none =
      let s : SessionView = idle_view in
      let p : Place = book_place a s was in
      let u : Turned = record { event = event.Idle; place = p } in
      book_turn op a b s s was was visit fit refl refl refl refl (λ room es h. h) fit.within (no_calls fit) (Ok events.Idle)
      (whole op a b s s p p u events.Idle (takes p.gates was None none) refl refl refl refl refl refl tt) (book_visit_moves a b was was visit)

  pub take_stops : IsFit op a idle_view → (was : BookView) → BookWasVisited a b was was → TakesTurn op a b idle_view idle_view (Err stops.NoMemory)
  take_stops fit was visit =
      let s : SessionView = idle_view in
      book_turn op a b s s was was visit fit refl refl refl refl (λ room es h. h) fit.within (no_calls fit) (Err stops.NoMemory)
      (record { may = refl; cause = tt; held = λ r e. absurd (cc); place_is = refl; opened_is = refl; pushed_is = refl }) (in_book refl refl (book_visit_moves a b was was visit))

  fresh_log : c.log ≡ [] → (item : Item) (phase : CodePhase St) → log_of phase [] ≡ [] → (room : ℕ) (es : List Entry) → IsLogOf room idle_view es → IsLogOf room (view_in rest (begins c item) phase) es
  fresh_log none item phase l room es h =
      let f : Fresh c.worker c.next_iter item es = fresh c.worker c.iter c.next_iter c.item item es h.current (no_mades (entries_of c.worker c.iter es) (h.entries ∙ ap (part room) none)) in
      record { current = f.current; entries = ap mades_of f.none ∙ sym (ap (part room) l) }

  pub take_some : IsFit op a idle_view → (was : BookView) (item : Item) (phase : CodePhase St) → BookWasVisited a b was (next_free was c.worker c.next_iter) → free_item was ≡ Some item → IsBegun rest (op.plan item) phase
      → TakesTurn op a b idle_view (view_in rest (begins c item) phase) (Ok (events.Take item))
  take_some fit was item (code.Running st last) visit found begun_is =
      let s : SessionView = idle_view in
      let t : SessionView = view_in rest (begins c item) (code.Running st last) in
      let p : Place = book_place a s was in
      let now : BookView = next_free was c.worker c.next_iter in
      let q : Place = record { gates = p.gates; book = now; session = t.at } in
      let u : Turned = take op p c.worker (Some item) in
      book_turn op a b s t was now visit fit refl refl refl (found_ordered was c.worker c.next_iter (free_item was)) (fresh_log (no_calls fit) item (code.Running st last) refl) tt
      (subst (RunsTo (op.plan item) [] []) (sym begun_is) begun, tt)
      (Ok (events.Take item))
      (whole op a b s t p q u (events.Take item) (takes p.gates was (Some item) found) refl refl
      (λ i. record { gates = p.gates; book = give_found was c.worker c.next_iter (found i); session = record t.at { phase = Running (begun_is i) } }) refl refl refl tt) (book_visit_moves a b was now visit)
  take_some fit was item code.Idle visit found begun_is = absurd begun_is
  take_some fit was item (code.Asking st room call) visit found begun_is = absurd begun_is
  take_some fit was item code.Finished visit found begun_is = absurd begun_is
  take_some fit was item (code.Committing book number left) visit found begun_is = absurd begun_is
  take_some fit was item code.Undoing visit found begun_is = absurd begun_is
