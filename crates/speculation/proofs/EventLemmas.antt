-- In each turn the event of the machine happens by the table, and no other does.
use Rattle.std.specs.Prelude.{◌≡◌, ℕ, zero, suc, Bool, true, false, not, ◌&&◌, ◌||◌, if◌then◌else◌, Option, Some, None, List, [], ◌∷◌, length, refl}
use Rattle.std.proofs.Common.{sym, ◌∙◌, ap, subst, inl, inr}
use Rattle.gx_base.specs.declared.calls.Call.{Call as CallOf}
use Rattle.gx_base.specs.declared.calls.Reply.{Reply}
use Rattle.gx_base.specs.declared.items.Item.{Item}
use Rattle.gx_base.specs.declared.acts.Entry.{Entry}
use Rattle.gx_base.specs.declared.acts.Step.{Step}
use Rattle.gx_base.specs.Plans.{Plan, Operator}
use Rattle.gx_base.specs.Worklists.{has_item, is_before, is_least}
use Rattle.gate_core.specs.Views.{in_way}
use Rattle.gate_core.proofs.lists.EntryLists.{both_true}
use Rattle.commit_book.specs.BookViews.{free_item, is_named}
use Rattle.speculation.specs.Events.{Event, Turn, then_turn}
use Rattle.speculation.specs.Events as event
use Rattle.speculation.specs.Sessions.{Session, Phase, Idle, Running, Finished, Undoing, Ahead, Asks, Ends, ahead, last_step}
use Rattle.speculation.specs.Machines.{Machine, Place, place_of, settled, reply_in, named_off, given_up, committed, Turned, take, live_at, answer, entry_of, undo_step, undo, finish, go, turn_in, turn_at, turn}
use Rattle.speculation.specs.EventRows.{IsFirstInWay, IsAsking, IsFinished, HasToUndo, Happens}
use Rattle.speculation.specs.ScheduledRuns.{is_empty, Run, begun, then_turned, scheduled, drain, lone_run, drained, played}
use Rattle.speculation.specs.RunResults.{IsScheduledRun, IsLoneRun, IsWholeScheduledRun}
use Rattle.speculation.proofs.Putting.{both_are}
use Rattle.speculation.proofs.Steps.{last_is_none}
use Rattle.speculation.proofs.InWay.{none_in_way, nothing_found, first_in_way, found_in_way, held_in_way}
use Rattle.speculation.proofs.Turns.{settled_itself}

not_least : (ordered least : Bool) → (not ordered || least) ≡ false → (ordered ≡ true) × (least ≡ false)
not_least true least e = (refl, e)
not_least false least e = absurd (cc)

module _ (op : Operator) (m : Machine) (worker : ℕ) where
  abbrev own : Session
  own = m.sessions worker

  abbrev here : Place
  here = place_of m worker

  -- what a finished worker does, by what the book says of it
  abbrev finish_by : Session → Bool → Bool → Bool → Turned
  finish_by t named ready least =
      if named then undo here worker t
      else (if ready then (if least then record { event = event.Commit (length m.book.commits); place = committed here worker t } else record { event = event.Wait; place = record here { session = t } })
      else record { event = event.Drop; place = given_up here worker t })

  -- ---- the event of the machine happens

  abbrev HappensIn : Turned → Type 0
  HappensIn t = Happens op m worker t.event (settled m worker t.place)

  take_happens : (o : Option Item) → own.phase ≡ Idle → free_item m.book ≡ o → HappensIn (take op here worker o)
  take_happens None p e = inl (p, e, settled_itself m worker)
  take_happens (Some item) p e = (p, e, refl)

  undo_happens : (t : Session) (o : Option Step) → HasToUndo m worker t → last_step t.outcome.steps ≡ o → HappensIn (undo_step here worker t o)
  undo_happens t None h e = inr (t, h, last_is_none t.outcome.steps e, refl)
  undo_happens t (Some last) h e = (t, last, h, e, refl, refl, refl)

  finish_happens : (t : Session) (named ready least : Bool) → IsFinished own t → is_named m.book worker t.iter ≡ named → has_item m.book.ready t.item ≡ ready → (not m.book.ordered || is_least m.book.ready t.item) ≡ least
      → HappensIn (finish_by t named ready least)
  finish_happens t true ready least h n r l = undo_happens t (last_step t.outcome.steps) (inr (h, n)) refl
  finish_happens t false false least h n r l = (t, (h, n), r, refl)
  finish_happens t false true true h n r l = (t, (h, n), both_are (has_item m.book.ready t.item) (not m.book.ordered || is_least m.book.ready t.item) r l, refl, refl)
  finish_happens t false true false h n r l =
      let p : (m.book.ordered ≡ true) × (is_least m.book.ready t.item ≡ false) = not_least m.book.ordered (is_least m.book.ready t.item) l in
      (t, (h, n), r, p.0, p.1, refl)

  finished_happens : (t : Session) → IsFinished own t → HappensIn (finish here worker t)
  finished_happens t h = finish_happens t (is_named m.book worker t.iter) (has_item m.book.ready t.item) (not m.book.ordered || is_least m.book.ready t.item) h refl refl refl

  answer_happens : (t : Session) (room : ℕ) (call : CallOf) (goes_on : Reply → Plan) (o : Option ℕ) → IsAsking own t room call goes_on → in_way (m.gates room) (entry_of here worker t room call) ≡ o
      → HappensIn (answer here worker t room call goes_on (entry_of here worker t room call) o)
  answer_happens t room call goes_on None h e = (t, goes_on, h, none_in_way (m.gates room) (entry_of here worker t room call) e, refl, refl)
  answer_happens t room call goes_on (Some place) h e = (t, goes_on, h, first_in_way (m.gates room) (entry_of here worker t room call) place e, refl, refl)

  go_happens : (plan : Plan) (a : Ahead) → own.phase ≡ Running plan → ahead own plan own.outcome.pushes ≡ a → HappensIn (go here worker a)
  go_happens plan (Asks t room call goes_on) p e = answer_happens t room call goes_on (in_way (m.gates room) (entry_of here worker t room call)) (plan, p, e) refl
  go_happens plan (Ends t) p e = finished_happens t (inr (plan, p, e))

  happens_in : (p : Phase) → own.phase ≡ p → HappensIn (turn_in op here worker p)
  happens_in Idle e = take_happens (free_item m.book) e refl
  happens_in (Running plan) e = go_happens plan (ahead own plan own.outcome.pushes) e refl
  happens_in Finished e = finished_happens own (inl (e, refl))
  happens_in Undoing e = undo_happens own (last_step own.outcome.steps) (inl (e, refl)) refl

  pub happens : Happens op m worker (turn_at op here worker).event (turn op m worker)
  unfolding turn_at
  happens = happens_in own.phase refl

  -- ---- no other does

  -- the event and the machine after it are those of a turn
  abbrev pub IsTurned : Event → Machine → Turned → Type 0
  IsTurned e next t = (e ≡ t.event) × (next ≡ settled m worker t.place)

  turned_as : (e : Event) (next : Machine) (t u : Turned) → t ≡ u → IsTurned e next u → IsTurned e next t
  turned_as e next t u q h = subst (IsTurned e next) (sym q) h

  finish_turn : (t : Session) → IsFinished own t → turn_in op here worker own.phase ≡ finish here worker t
  finish_turn t (inl h) = ap (turn_in op here worker) h.0 ∙ ap (finish here worker) (sym h.1)
  finish_turn t (inr h) = ap (turn_in op here worker) h.1 ∙ ap (go here worker) h.2

  finish_turn_by : (t : Session) (named ready least : Bool) → IsFinished own t → is_named m.book worker t.iter ≡ named → has_item m.book.ready t.item ≡ ready → (not m.book.ordered || is_least m.book.ready t.item) ≡ least
      → turn_in op here worker own.phase ≡ finish_by t named ready least
  finish_turn_by t named ready least h n r l = finish_turn t h ∙ (λ i. finish_by t (n i) (r i) (l i))

  undo_turn : (t : Session) → HasToUndo m worker t → turn_in op here worker own.phase ≡ undo here worker t
  undo_turn t (inl h) = ap (turn_in op here worker) h.0 ∙ ap (undo here worker) (sym h.1)
  undo_turn t (inr h) = finish_turn_by t true (has_item m.book.ready t.item) (not m.book.ordered || is_least m.book.ready t.item) h.0 h.1 refl refl

  undo_turn_by : (t : Session) (o : Option Step) → HasToUndo m worker t → last_step t.outcome.steps ≡ o → turn_in op here worker own.phase ≡ undo_step here worker t o
  undo_turn_by t o h e = undo_turn t h ∙ ap (undo_step here worker t) e

  answer_turn : (t : Session) (room : ℕ) (call : CallOf) (goes_on : Reply → Plan) (o : Option ℕ) → IsAsking own t room call goes_on → in_way (m.gates room) (entry_of here worker t room call) ≡ o
      → turn_in op here worker own.phase ≡ answer here worker t room call goes_on (entry_of here worker t room call) o
  answer_turn t room call goes_on o h e = ap (turn_in op here worker) h.1 ∙ ap (go here worker) h.2 ∙ ap (answer here worker t room call goes_on (entry_of here worker t room call)) e

  conflict_is : (t : Session) (room : ℕ) (call : CallOf) (held other : Entry) (would : Reply) (next : Machine) → other ≡ held → would ≡ reply_in here room call
      → next ≡ settled m worker (if m.book.ordered && is_before t.item held.item then named_off here t held else given_up here worker t)
      → IsTurned (event.Conflict room held call would) next (record { event = event.Conflict room other call (reply_in here room call); place = if m.book.ordered && is_before t.item other.item then named_off here t other else given_up here worker t })
  conflict_is t room call held other would next same w n = (
    λ i. event.Conflict room (sym same i) call (w i),
    n ∙ (λ i. settled m worker (if m.book.ordered && is_before t.item (sym same i).item then named_off here t (sym same i) else given_up here worker t)),
  )

  one_in : (e : Event) (next : Machine) → Happens op m worker e next → IsTurned e next (turn_in op here worker own.phase)
  one_in (event.Take item) next h = turned_as _ next _ (take op here worker (Some item)) (ap (turn_in op here worker) h.0 ∙ ap (take op here worker) h.1) (refl, h.2)
  one_in event.Idle next (inl h) = turned_as _ next _ (take op here worker None) (ap (turn_in op here worker) h.0 ∙ ap (take op here worker) h.1) (refl, h.2 ∙ sym (settled_itself m worker))
  one_in event.Idle next (inr h) = turned_as _ next _ (undo_step here worker h.0 None) (undo_turn_by h.0 None h.1 (ap last_step h.2)) (refl, h.3)
  one_in (event.Call room call reply) next h =
      turned_as _ next _ (answer here worker h.0 room call h.1 (entry_of here worker h.0 room call) None)
      (answer_turn h.0 room call h.1 None h.2 (nothing_found (m.gates room) (entry_of here worker h.0 room call) h.3)) (ap (event.Call room call) h.4, h.5)
  one_in (event.Conflict room held call would) next h =
      let f : IsFirstInWay (m.gates room) (entry_of here worker h.0 room call) held = h.3 in
      turned_as _ next _ (answer here worker h.0 room call h.1 (entry_of here worker h.0 room call) (Some f.place))
      (answer_turn h.0 room call h.1 (Some f.place) h.2 (found_in_way (m.gates room) (entry_of here worker h.0 room call) held f))
      (conflict_is h.0 room call held (live_at (m.gates room) f.place (entry_of here worker h.0 room call)) would next (held_in_way (m.gates room) (entry_of here worker h.0 room call) held f) h.4 h.5)
  one_in (event.Commit number) next h =
      let p : (has_item m.book.ready (h.0).item ≡ true) × ((not m.book.ordered || is_least m.book.ready (h.0).item) ≡ true) =
      both_true (has_item m.book.ready (h.0).item) (not m.book.ordered || is_least m.book.ready (h.0).item) h.2 in
      turned_as _ next _ (finish_by h.0 false true true) (finish_turn_by h.0 false true true (h.1).0 (h.1).1 p.0 p.1) (ap event.Commit h.3, h.4)
  one_in event.Wait next h = turned_as _ next _ (finish_by h.0 false true false) (finish_turn_by h.0 false true false (h.1).0 (h.1).1 h.2 (λ i. not (h.3 i) || h.4 i)) (refl, h.5)
  one_in event.Drop next h =
      turned_as _ next _ (finish_by h.0 false false (not m.book.ordered || is_least m.book.ready (h.0).item)) (finish_turn_by h.0 false false (not m.book.ordered || is_least m.book.ready (h.0).item) (h.1).0 (h.1).1 h.2 refl) (refl, h.3)
  one_in (event.Undo room call) next h = turned_as _ next _ (undo_step here worker h.0 (Some h.1)) (undo_turn_by h.0 (Some h.1) h.2 h.3) (λ i. event.Undo (h.4 i) (h.5 i), h.6)
  one_in event.Busy next h = absurd h

  pub no_other : (e : Event) (next : Machine) → Happens op m worker e next → IsTurned e next (turn_at op here worker)
  unfolding turn_at
  no_other e next h = one_in e next h

-- ---- runs of a schedule

module _ (op : Operator) where
  run_by : (r : Run) (worker : ℕ) (schedule : List ℕ) (b : Bool) → is_empty r.machine.book.ready ≡ b
      → (b ≡ false → IsScheduledRun op (then_turned r worker (turn_at op (place_of r.machine worker) worker)) schedule (scheduled op (then_turned r worker (turn_at op (place_of r.machine worker) worker)) schedule))
      → IsScheduledRun op r (worker ∷ schedule) (if b then r else scheduled op (then_turned r worker (turn_at op (place_of r.machine worker) worker)) schedule)
  run_by r worker schedule true e f = inl (e, refl)
  run_by r worker schedule false e f = inr (e, ((turn_at op (place_of r.machine worker) worker).event, turn op r.machine worker, happens op r.machine worker, f refl))

  pub is_run : (r : Run) (schedule : List ℕ) → IsScheduledRun op r schedule (scheduled op r schedule)
  unfolding scheduled
  is_run r [] = refl
  is_run r (worker ∷ schedule) = run_by r worker schedule (is_empty r.machine.book.ready) refl (λ e. is_run (then_turned r worker (turn_at op (place_of r.machine worker) worker)) schedule)

  pub one_run : (r last : Run) (schedule : List ℕ) → IsScheduledRun op r schedule last → last ≡ scheduled op r schedule
  unfolding scheduled
  one_run r last [] h = h
  one_run r last (worker ∷ schedule) (inl h) = h.1 ∙ sym (ap (λ (b : Bool). if b then r else scheduled op (then_turned r worker (turn_at op (place_of r.machine worker) worker)) schedule) h.0)
  one_run r last (worker ∷ schedule) (inr h) =
      let next : Run = record { machine = (h.1).1; trace = then_turn r.trace worker (h.1).0 } in
      let p : IsTurned op r.machine worker (h.1).0 (h.1).1 (turn_at op (place_of r.machine worker) worker) = no_other op r.machine worker (h.1).0 (h.1).1 (h.1).2 in
      let same : next ≡ then_turned r worker (turn_at op (place_of r.machine worker) worker) = λ i. record { machine = p.1 i; trace = then_turn r.trace worker (p.0 i) } in
      one_run next last schedule (h.1).3 ∙ ap (λ n. scheduled op n schedule) same
      ∙ sym (ap (λ (b : Bool). if b then r else scheduled op (then_turned r worker (turn_at op (place_of r.machine worker) worker)) schedule) h.0)

  -- ---- whole runs

  lone_by : (m : Machine) (turns : ℕ) (b : Bool) → is_empty m.book.ready ≡ b → (b ≡ false → IsLoneRun op (turn op m 0) turns (lone_run op (turn op m 0) turns))
      → IsLoneRun op m (suc turns) (if b then m else lone_run op (turn op m 0) turns)
  lone_by m turns true e f = inl (e, refl)
  lone_by m turns false e f = inr (e, ((turn_at op (place_of m 0) 0).event, turn op m 0, happens op m 0, f refl))

  is_lone : (m : Machine) (turns : ℕ) → IsLoneRun op m turns (lone_run op m turns)
  unfolding lone_run
  is_lone m zero = refl
  is_lone m (suc turns) = lone_by m turns (is_empty m.book.ready) refl (λ e. is_lone (turn op m 0) turns)

  one_lone : (m last : Machine) (turns : ℕ) → IsLoneRun op m turns last → last ≡ lone_run op m turns
  unfolding lone_run
  one_lone m last zero h = h
  one_lone m last (suc turns) (inl h) = h.1 ∙ sym (ap (λ (b : Bool). if b then m else lone_run op (turn op m 0) turns) h.0)
  one_lone m last (suc turns) (inr h) =
      let p : IsTurned op m 0 (h.1).0 (h.1).1 (turn_at op (place_of m 0) 0) = no_other op m 0 (h.1).0 (h.1).1 (h.1).2 in
      one_lone (h.1).1 last turns (h.1).3 ∙ ap (λ n. lone_run op n turns) p.1 ∙ sym (ap (λ (b : Bool). if b then m else lone_run op (turn op m 0) turns) h.0)

  pub is_whole : (m : Machine) (workers : ℕ) (schedule : List ℕ) (turns : ℕ) → IsWholeScheduledRun op m workers schedule turns (played op m workers schedule turns)
  unfolding played drained
  is_whole m workers schedule turns =
      let r : Run = scheduled op (begun m) schedule in
      (r, is_run (begun m) schedule, is_lone (drain r workers).machine turns, refl)

  pub one_whole : (m : Machine) (workers : ℕ) (schedule : List ℕ) (turns : ℕ) (last : Run) → IsWholeScheduledRun op m workers schedule turns last → last ≡ played op m workers schedule turns
  unfolding played drained
  one_whole m workers schedule turns last h =
      let same : h.0 ≡ scheduled op (begun m) schedule = one_run (begun m) h.0 schedule h.1 in
      let machines : last.machine ≡ lone_run op (drain (scheduled op (begun m) schedule) workers).machine turns = one_lone (drain h.0 workers).machine last.machine turns h.2 ∙ ap (λ (r : Run). lone_run op (drain r workers).machine turns) same in
      let traces : last.trace ≡ (drain (scheduled op (begun m) schedule) workers).trace = h.3 ∙ ap (λ (r : Run). (drain r workers).trace) same in
      λ i. record { machine = machines i; trace = traces i }
