-- The turns of a running session.
use Rattle.std.specs.Prelude.{◌≡◌, ℕ, zero, suc, ◌<◌, Bool, true, false, ◌&&◌, ◌==◌, if◌then◌else◌, Option, Some, None, List, [], ◌∷◌, ◌++◌, slice_get, slice_index_or, Ok, Err, refl}
use Rattle.std.proofs.Common.{sym, ◌∙◌, ap, subst}
use Rattle.gx_base.specs.declared.acts.Entry.{Entry}
use Rattle.gx_base.specs.declared.acts.Step.{Step}
use Rattle.gx_base.specs.declared.calls.Call.{Call as CallOf}
use Rattle.gx_base.specs.declared.calls.Reply.{Reply}
use Rattle.gx_base.specs.declared.items.Item.{Item}
use Rattle.gx_base.specs.BodyRuns.{called}
use Rattle.gx_base.specs.Plans.{Plan, Call, Operator}
use Rattle.gx_base.specs.Replays.{put}
use Rattle.gx_base.specs.Steps.{reply_to}
use Rattle.gx_base.specs.Worklists.{is_before}
use Rattle.gate_core.specs.declared.refusals.Told.{Told}
use Rattle.gate_core.specs.CallAnswers.{Tells}
use Rattle.gate_core.specs.Views.{GateView, asked_entry, in_way, admit, gate_rows, live_start}
use Rattle.commit_book.specs.BookViews.{BookView}
use Rattle.speculation.specs.Events as event
use Rattle.speculation.specs.Machines.{Place, Turned, answer, conflict, live_at, let_go, named_off, given_up, turn_at}
use Rattle.speculation.specs.Sessions.{Running, undoing, undone_to, with_call, has_no_step}
use Rattle.speculation.proofs.Putting.{no_bool, both_are, same_number}
use Rattle.speculation.proofs.GateTurns.{log_admits, log_elsewhere}
use Rattle.rooms.specs.RoomsViews.{RoomsView, visited}
use Rattle.rooms.specs.HandedOut.{IsLost}
use Rattle.rooms.specs.declared.values.Value.{Value}
use Rattle.rooms.specs.declared.values.Value.TheVariants.{Object}
use Rattle.rooms.proofs.CallerLemmas.{put_same}
use Rattle.sessions.specs.declared.events.Event.{Event as CodeEvent}
use Rattle.sessions.specs.declared.events.Event.TheVariants as events
use Rattle.sessions.specs.declared.events.Stop.TheVariants as stops
use Rattle.sessions.specs.declared.session.Phase.{Phase as CodePhase}
use Rattle.sessions.specs.declared.session.Phase.TheVariants as code
use Rattle.sessions.specs.Bodies.{HasAsked, IsNoted}
use Rattle.sessions.specs.Needs.{gone_on, needs, to_put_back}
use Rattle.sessions.specs.Places.{IsLogOf, IsFit, AreStepsWithin, IsBookIn, StandsOn}
use Rattle.sessions.specs.SessionViews.{OpenCommit, Rests, Core, SessionView, view_in}
use Rattle.sessions.specs.SharedTurns.{Shared, cut_at, stays}
use Rattle.sessions.specs.TurnMoves.{puts_back, WasWanting, in_no_room, in_gate}
use Rattle.sessions.specs.Turns.{TakesTurn, TellsRight, IsAfter, event_of, is_conflict}
use Rattle.sessions.specs.Visits.{WasVisited, GaveUp}
use Rattle.sessions.proofs.Logs.{log_sound, sound_log, others_admit}
use Rattle.sessions.proofs.Standing.{base_place, base_gates, base_book_in, base_stands}
use Rattle.sessions.proofs.Visiting.{same_gates, other_than_book}
use Rattle.sessions.proofs.Turning.{whole, no_loss, lost_moves, some_number}
use Rattle.sessions.proofs.BookTurns.{free_of, body_of, lost_turn}
use Rattle.sessions.proofs.GateVisits.{gate_stands, gate_turn, gate_log, visited_at, gate_visit_free, gate_visit_lost, gate_visit_moves, gate_visit_book}
use Rattle.sessions.proofs.GivingUp.{Quiet, quiet_itself, quiet_visit, gave_up_turn}
use Rattle.sessions.proofs.UndoTurns.{over, or_left, or_right, unless_true, where_true}

abbrev pub asked_call : ℕ → CallOf → Option (ℕ × CallOf)
asked_call room call = Some (room, call)

some_pair : {x y : ℕ × CallOf} → Some x ≡ Some y → x ≡ y
some_pair e = cc

-- ---- the session that has asked a call

pub asking_as : {St : Type 0} (room : ℕ) (call : CallOf) (f : CodePhase St) → HasAsked (Some (room, call)) f → (st : St) × (f ≡ code.Asking st room call)
asking_as room call code.Idle h = absurd h
asking_as room call (code.Running st last) h = absurd h
asking_as room call (code.Asking st other k) h = (st, asked_same st room other call k h) where
  asked_same : {St : Type 0} (st : St) (room other : ℕ) (call k : CallOf) → asked_call room call ≡ asked_call other k → code.Asking st other k ≡ code.Asking st room call
  asked_same st room other call k e = λ i. code.Asking st (sym (some_pair e) i).0 (sym (some_pair e) i).1
asking_as room call code.Finished h = absurd (cc)
asking_as room call (code.Committing book number left) h = absurd h
asking_as room call code.Undoing h = absurd h

pub noted_as : {St : Type 0} (reply : Reply) (st : St) (room : ℕ) (call : CallOf) (f after : CodePhase St) → f ≡ code.Asking st room call → IsNoted reply f after → after ≡ code.Running st (Some reply)
noted_as reply st room call f after e h = let k : IsNoted reply (code.Asking st room call) after = subst (λ x. IsNoted reply x after) e h in k

indexed : (xs : List Entry) (place : ℕ) (d x : Entry) → slice_get xs place ≡ Some x → slice_index_or xs place d ≡ x
indexed [] place d x e = absurd (cc)
indexed (y ∷ ys) zero d x e = cc
indexed (y ∷ ys) (suc place) d x e = indexed ys place d x e

append_within : (rooms : ℕ) (steps : List Step) (x : Step) → AreStepsWithin rooms steps → x.room < rooms → AreStepsWithin rooms (steps ++ x ∷ [])
append_within rooms [] x h l = (l, tt)
append_within rooms (y ∷ ys) x h l = (h.0, append_within rooms ys x h.1 l)

-- with a call more
abbrev pub noted : Core → ℕ → CallOf → Reply → Core
noted c room call reply = record c { log = c.log ++ record { room = room; call = call; reply = reply } ∷ [] }

-- a place of which the gates are the told ones
pub stands_with : {T S : Type 0} (op : Operator) (a : RoomsView (Value T S)) (s : SessionView) → IsFit op a s → s.opened ≡ None → (bk : BookView) → IsBookIn a None bk → bk.ordered ≡ a.ordered
    → StandsOn a s (record { gates = base_gates a; book = bk; session = s.at })
stands_with op a s fit none bk in_book o = record {
  session_is = refl;
  gates = (base_stands op a s fit none).gates;
  no_others = (base_stands op a s fit none).no_others;
  logs = (base_stands op a s fit none).logs;
  book = subst (λ (k : Option OpenCommit). IsBookIn a k bk) (sym none) in_book;
  ordered = o;
}

-- a running session stops for want of memory
module _ {T S St : Type 0} (op : Operator) (a x b : RoomsView (Value T S)) (rest : Rests St) (c : Core) (s : SessionView) (plan : Plan) (asked : Option ℕ)
    (is : s ≡ record { worker = c.worker; at = record { phase = Running plan; iter = c.iter; item = c.item; outcome = record { steps = c.log; pushes = c.pushes; withdrawn = [] }; next_iter = c.next_iter }; asked = asked; opened = None; pushed = c.pushed }) (gates : ℕ → GateView)
    (stand : (bk : BookView) → IsBookIn a None bk → bk.ordered ≡ a.ordered → StandsOn a s (record { gates = gates; book = bk; session = s.at })) where
  abbrev running : SessionView
  running = record { worker = c.worker; at = record { phase = Running plan; iter = c.iter; item = c.item; outcome = record { steps = c.log; pushes = c.pushes; withdrawn = [] }; next_iter = c.next_iter }; asked = asked; opened = None; pushed = c.pushed }

  abbrev none_pushed : Core
  none_pushed = record c { pushes = [] }

  -- what becomes of the book's room, and where memory was wanting
  abbrev pub Wanting : Type 0
  Wanting = (lost : Option ℕ) (bk now : BookView) → b.moves ≡ puts_back a.book gates gates bk now c.log lost x.moves → WasWanting a.book gates gates bk now (gone_on running.at).phase c.log lost a.moves b.moves

  stands : (bk : BookView) → IsBookIn a None bk → bk.ordered ≡ a.ordered → StandsOn a running (record { gates = gates; book = bk; session = running.at })
  stands bk in_book o = subst (λ (v : SessionView). StandsOn a v (record { gates = gates; book = bk; session = v.at })) is (stand bk in_book o)

  stopped_running : IsFit op a running → Quiet a x → (has_no_step c.log ≡ true → needs a.book running a.book ≡ true) → Wanting → (new : Core) (phase : CodePhase St) → GaveUp x b none_pushed new phase → TakesTurn op a b running (view_in rest new phase) (Err stops.NoMemory)
  stopped_running fit quiet needed wanting new phase gave_up =
      let undone : BookView → Place = λ bk. record { gates = gates; book = bk; session = undone_to running.at c.log } in
      let p : BookView → Place = λ bk. record { gates = gates; book = bk; session = running.at } in
      gave_up_turn op a x b rest running none_pushed quiet fit refl refl gates stands (λ r es h. h) fit.within needed none_pushed new phase refl gave_up (Err stops.NoMemory)
      (λ n. record {
        may = refl;
        cause = tt;
        held = λ r e. absurd (cc);
        place_is = sym (unless_true (has_no_step c.log) (let_go (p (base_book_in a None)) c.worker running.at) (undone (base_book_in a None)) n);
        opened_is = refl;
        pushed_is = refl;
      })
      (λ bk n o. record { may = refl; cause = tt; held = λ r e. absurd (cc); place_is = sym (where_true (has_no_step c.log) (let_go (p bk) c.worker running.at) (undone bk) n); opened_is = refl; pushed_is = refl })
      (λ n. record { may = refl; cause = tt; held = λ r e. sym (some_number e); place_is = refl; opened_is = refl; pushed_is = refl })
      (λ lost bk now t e. wanting lost bk now e)

  pub stopped_turn : IsFit op a s → Quiet a x → (has_no_step c.log ≡ true → needs a.book s a.book ≡ true) → Wanting → (new : Core) (phase : CodePhase St) → GaveUp x b none_pushed new phase → TakesTurn op a b s (view_in rest new phase) (Err stops.NoMemory)
  stopped_turn fit quiet needed wanting new phase gave_up =
      subst (λ (v : SessionView). TakesTurn op a b v (view_in rest new phase) (Err stops.NoMemory)) (sym is)
      (stopped_running (subst (IsFit op a) is fit) quiet (λ n. subst (λ (v : SessionView). needs a.book v a.book ≡ true) is (needed n)) wanting new phase gave_up)

module _ {T S St : Type 0} (op : Operator) (a b : RoomsView (Value T S)) (rest : Rests St) (c : Core) (st : St) (room : ℕ) (call : CallOf) where
  abbrev asking : SessionView
  asking = view_in rest c (code.Asking st room call)

  abbrev goes_on : Reply → Plan
  goes_on = λ reply. rest st (Some reply)

  abbrev at : (ℕ → GateView) → BookView → Place
  at gates bk = record { gates = gates; book = bk; session = asking.at }

  abbrev entry_in : GateView → Entry
  entry_in g = asked_entry c.worker c.iter c.item call g.state

  -- what the machine does, by the entry in the way
  asks : (gates : ℕ → GateView) (bk : BookView) (o : Option ℕ) → in_way (gates room) (entry_in (gates room)) ≡ o
      → turn_at op (at gates bk) c.worker ≡ answer (at gates bk) c.worker asking.at room call goes_on (entry_in (gates room)) o
  unfolding turn_at
  asks gates bk o e = ap (answer (at gates bk) c.worker asking.at room call goes_on (entry_in (gates room))) e

  below : IsFit op a asking → room < a.book
  below fit = subst (λ n. room < n) (sym fit.book) (body_of op a asking fit refl).1

  needs_room : needs a.book asking room ≡ true
  needs_room = or_left (room == room) (to_put_back a.book c.log room) (same_number room)

  needs_book : has_no_step c.log ≡ true → needs a.book asking a.book ≡ true
  needs_book e = or_right (room == a.book) (to_put_back a.book c.log a.book) (both_are (has_no_step c.log) (a.book == a.book) e (same_number a.book))

  not_book : IsFit op a asking → (a.book == room) ≡ false
  not_book fit = other_than_book a.book room (below fit)

  abbrev plan : Plan
  plan = Call room call goes_on

  unless_book : (book : ℕ) (p : Place) (pushed : List Item) → (book == room) ≡ false → cut_at op book p c.worker asking.at pushed (Running plan) room ≡ stays p asking.at pushed
  unless_book book p pushed e = ap (λ (k : Bool). if k then record { event = (turn_at op p c.worker).event; place = record p { session = undoing asking.at }; opened = None; pushed = pushed } else stays p asking.at pushed) e

  at_book : (book : ℕ) (p : Place) (pushed : List Item)
      → cut_at op book p c.worker asking.at pushed (Running plan) book ≡ record { event = (turn_at op p c.worker).event; place = record p { session = undoing asking.at }; opened = None; pushed = pushed }
  at_book book p pushed =
      ap (λ (k : Bool). if k then record { event = (turn_at op p c.worker).event; place = record p { session = undoing asking.at }; opened = None; pushed = pushed } else stays p asking.at pushed) (same_number book)

  pub call_lost : IsFit op a asking → IsLost a b room → TakesTurn op a b asking asking (Ok events.Busy)
  call_lost fit loss =
      let shared : cut_at op a.book (base_place a asking) c.worker asking.at c.pushed (Running plan) room ≡ stays (base_place a asking) asking.at c.pushed = unless_book a.book (base_place a asking) c.pushed (not_book fit) in
      lost_turn op a b asking asking room loss fit refl refl refl needs_room (λ other es h. h) fit.within (body_of op a asking fit refl) (Ok events.Busy) (
        subst (λ (x : Shared). IsAfter x event.Busy asking (base_place a asking)) (sym shared) (record { event_is = refl; place_is = refl; opened_is = refl; pushed_is = refl }),
        tt,
        (λ e. absurd (no_bool (a.book == room) e (not_book fit))),
      ) (lost_moves a b room loss)

  -- ---- the call was done

  call_fits : IsFit op a asking → (was : GateView) → IsLogOf room asking was.live
      → IsLogOf room (view_in rest (noted c room call (reply_to was.state call)) (code.Running st (Some (reply_to was.state call)))) (admit was c.worker c.iter c.item call).live
  call_fits fit was h =
      let x : Step = record { room = room; call = call; reply = reply_to was.state call } in
      sound_log room c.worker c.iter c.item (c.log ++ x ∷ []) (admit was c.worker c.iter c.item call).live (log_admits c.worker c.iter c.item was room call c.log (log_sound room c.worker c.iter c.item c.log was.live h))

  call_elsewhere : (reply : Reply) (other : ℕ) → (room == other) ≡ false → (es : List Entry) → IsLogOf other asking es → IsLogOf other (view_in rest (noted c room call reply) (code.Running st (Some reply))) es
  call_elsewhere reply other n es h =
      let x : Step = record { room = room; call = call; reply = reply } in
      sound_log other c.worker c.iter c.item (c.log ++ x ∷ []) es (log_elsewhere c.worker c.iter c.item x other c.log es n (log_sound other c.worker c.iter c.item c.log es h))

  call_as_made : IsFit op a asking → (was : GateView) → WasVisited a b room was (admit was c.worker c.iter c.item call) → in_way was (entry_in was) ≡ None
      → TakesTurn op a b asking (view_in rest (noted c room call (reply_to was.state call)) (code.Running st (Some (reply_to was.state call)))) (Ok (events.Call room call (reply_to was.state call)))
  call_as_made fit was visit free =
      let reply : Reply = reply_to was.state call in
      let s : SessionView = asking in
      let t : SessionView = view_in rest (noted c room call reply) (code.Running st (Some reply)) in
      let now : GateView = admit was c.worker c.iter c.item call in
      let bk : BookView = base_book_in a None in
      let base : StandsOn a s (base_place a s) = base_stands op a s fit refl in
      let gates : ℕ → GateView = put (base_gates a) room was in
      let here : was ≡ gates room = sym (put_same (base_gates a) room was) in
      let q : Place = record { gates = put gates room now; book = bk; session = t.at } in
      let u : Turned = answer (at gates bk) c.worker s.at room call goes_on (entry_in (gates room)) None in
      gate_turn op a a b b s t room was now (same_gates a) visit (same_gates b) fit refl refl (below fit) bk bk base.book base.ordered
      (gate_visit_book a b room was now visit (below fit) bk base.book) base.ordered None (no_loss a b s (gate_visit_lost a b room was now visit))
      (call_fits fit was (gate_log op a a s room was (same_gates a) visit.handed fit refl (below fit) bk base.book base.ordered)) (others_admit c.worker c.iter c.item call was) (call_elsewhere reply)
      (append_within op.rooms c.log (record { room = room; call = call; reply = reply }) fit.within (body_of op a asking fit refl).1)
      (gate_visit_free a b room was now visit (free_of op a s fit refl), (called c.log c.pushes room call goes_on reply (body_of op a asking fit refl).0, tt))
      (Ok (events.Call room call reply))
      (whole op a b s t (at gates bk) q u (events.Call room call reply) (asks gates bk None (subst (λ (g : GateView). in_way g (entry_in g) ≡ None) here free)) refl (λ i. event.Call room call (reply_to (here i).state call))
      (λ i. record { gates = put gates room (admit (here i) c.worker c.iter c.item call); book = bk; session = with_call s.at room call goes_on (reply_to (here i).state call) }) refl refl refl tt)
      (gate_visit_moves a b room was now visit ∙ visited_at a room was now a.moves)

  pub call_turn : IsFit op a asking → (was now : GateView) (reply : Reply) → WasVisited a b room was now → in_way was (entry_in was) ≡ None → reply ≡ reply_to was.state call → now ≡ admit was c.worker c.iter c.item call
      → TakesTurn op a b asking (view_in rest (noted c room call reply) (code.Running st (Some reply))) (Ok (events.Call room call reply))
  call_turn fit was now reply visit free replied admitted =
      subst (λ r. TakesTurn op a b asking (view_in rest (noted c room call r) (code.Running st (Some r))) (Ok (events.Call room call r))) (sym replied)
      (call_as_made fit was (subst (WasVisited a b room was) admitted visit) free)

  -- ---- the gate was left as it was

  as_it_was : (x : RoomsView (Value T S)) (was : GateView) → WasVisited a x room was was → x.moves ≡ visited room (Object (put (base_gates a) room was room)) (Object (put (base_gates a) room was room)) a.moves
  as_it_was x was visit = gate_visit_moves a x room was was visit ∙ (λ i. visited room (Object (sym (put_same (base_gates a) room was) i)) (Object (sym (put_same (base_gates a) room was) i)) a.moves)

  -- ---- the call is in conflict

  abbrev held_at : ℕ → GateView → Entry
  held_at place g = live_at g place (entry_in g)

  conflict_event : (told : Told) (place : ℕ) (was g : GateView) → was ≡ g → Tells (gate_rows was) (live_start was) was.live (entry_in was) told place
      → event.Conflict room told.held told.asked told.would ≡ event.Conflict room (held_at place g) call (reply_to g.state call)
  conflict_event told place was g here tells =
      let held : told.held ≡ held_at place g = sym (indexed was.live place (entry_in was) told.held tells.held) ∙ ap (held_at place) here in
      let would : told.would ≡ reply_to g.state call = tells.would_is ∙ ap (λ (x : GateView). reply_to x.state call) here in
      λ i. event.Conflict room (held i) (tells.asked_is i) (would i)

  conflict_tells : (told : Told) (place : ℕ) (was g : GateView) → was ≡ g → Tells (gate_rows was) (live_start was) was.live (entry_in was) told place
      → Tells (gate_rows g) (live_start g) g.live (asked_entry c.worker c.iter c.item told.asked g.state) told place
  conflict_tells told place was g here tells =
      subst (λ (x : GateView). Tells (gate_rows x) (live_start x) x.live (asked_entry c.worker c.iter c.item told.asked x.state) told place) here
      (subst (λ (k : CallOf). Tells (gate_rows was) (live_start was) was.live (asked_entry c.worker c.iter c.item k was.state) told place) (sym tells.asked_is) tells)

  given_is : (p : Place) (held : Entry) → p.book.ordered ≡ false
      → (if p.book.ordered && is_before c.item held.item then named_off p asking.at held else given_up p c.worker asking.at) ≡ given_up p c.worker asking.at
  given_is p held e = ap (λ (k : Bool). if k && is_before c.item held.item then named_off p asking.at held else given_up p c.worker asking.at) e

  pub conflict_turn : (x : RoomsView (Value T S)) (new : Core) (phase : CodePhase St) → op.ordered ≡ false → IsFit op a asking → (was : GateView) (told : Told) (place : ℕ) → WasVisited a x room was was
      → Tells (gate_rows was) (live_start was) was.live (entry_in was) told place → GaveUp x b c new phase → TakesTurn op a b asking (view_in rest new phase) (Ok (events.Conflict room told))
  conflict_turn x new phase unordered fit was told place visit tells gave_up =
      let s : SessionView = asking in
      let gates : ℕ → GateView = put (base_gates a) room was in
      let here : was ≡ gates room = sym (put_same (base_gates a) room was) in
      let e : CodeEvent = events.Conflict room told in
      let u : BookView → Turned = λ bk. conflict (at gates bk) c.worker s.at room call (held_at place (gates room)) in
      let turns : (bk : BookView) → turn_at op (at gates bk) c.worker ≡ u bk = λ bk. asks gates bk (Some place) (subst (λ (g : GateView). in_way g (entry_in g) ≡ Some place) here tells.first) in
      let told_so : event_of e ≡ event.Conflict room (held_at place (gates room)) call (reply_to (gates room).state call) = conflict_event told place was (gates room) here tells in
      let right : (bk : BookView) → TellsRight (at gates bk) c.worker e = λ bk. (place, conflict_tells told place was (gates room) here tells) in
      let ordered_is : (bk : BookView) → bk.ordered ≡ a.ordered → bk.ordered ≡ false = λ bk o. o ∙ fit.ordered ∙ unordered in
      let base_is : (base_book_in a None).ordered ≡ false = ordered_is (base_book_in a None) (base_stands op a s fit refl).ordered in
      gave_up_turn op a x b rest s c (quiet_visit a x room was visit (below fit) (free_of op a s fit refl)) fit refl refl gates
      (λ bk in_book o. gate_stands op a a s room was (same_gates a) visit.handed fit refl (below fit) bk in_book o) (λ r es h. h) fit.within needs_book
      c new phase refl gave_up (Ok e)
      (λ n. whole op a b s (view_in rest c code.Undoing) (at gates (base_book_in a None)) (record { gates = gates; book = base_book_in a None; session = undoing s.at }) (u (base_book_in a None)) e (turns (base_book_in a None)) refl told_so
      (sym (given_is (at gates (base_book_in a None)) (held_at place (gates room)) base_is ∙ unless_true (has_no_step c.log) (let_go (at gates (base_book_in a None)) c.worker s.at) (record { gates = gates; book = base_book_in a None; session = undoing s.at }) n))
      refl refl refl (right (base_book_in a None)))
      (λ bk n o. whole op a b s (view_in rest (over c) code.Idle) (at gates bk) (let_go (at gates bk) c.worker s.at) (u bk) e (turns bk) refl told_so
      (sym (given_is (at gates bk) (held_at place (gates room)) (ordered_is bk o) ∙ where_true (has_no_step c.log) (let_go (at gates bk) c.worker s.at) (record { gates = gates; book = bk; session = undoing s.at }) n))
      refl refl refl (right bk))
      (λ n. (
        subst (λ (y : Shared). IsAfter y (event_of e) (view_in rest c code.Undoing) (record { gates = gates; book = base_book_in a None; session = undoing s.at })) (sym (at_book a.book (at gates (base_book_in a None)) c.pushed))
            (record { event_is = told_so ∙ ap (λ (y : Turned). y.event) (sym (turns (base_book_in a None))); place_is = refl; opened_is = refl; pushed_is = refl }),
        right (base_book_in a None),
        (λ k. ap (λ (y : Turned). is_conflict y.event) (turns (base_book_in a None))),
      ))
      (λ lost bk now t m. m ∙ ap (puts_back a.book gates gates bk now c.log lost) (as_it_was x was visit))

  -- ---- memory is wanting

  pub stop_turn : (new : Core) (phase : CodePhase St) → IsFit op a asking → GaveUp a b (record c { pushes = [] }) new phase → TakesTurn op a b asking (view_in rest new phase) (Err stops.NoMemory)
  stop_turn new phase fit gave_up =
      stopped_turn op a a b rest c asking plan (Some room) refl (base_gates a) (λ bk in_book o. stands_with op a asking fit refl bk in_book o) fit (quiet_itself a (free_of op a asking fit refl)) needs_book
      (λ lost bk now e. in_no_room e) new phase gave_up

  pub stop_in_gate : (x : RoomsView (Value T S)) (new : Core) (phase : CodePhase St) → IsFit op a asking → (was : GateView) → WasVisited a x room was was → GaveUp x b (record c { pushes = [] }) new phase → TakesTurn op a b asking (view_in rest new phase) (Err stops.NoMemory)
  stop_in_gate x new phase fit was visit gave_up =
      let gates : ℕ → GateView = put (base_gates a) room was in
      stopped_turn op a x b rest c asking plan (Some room) refl gates (λ bk in_book o. gate_stands op a a asking room was (same_gates a) visit.handed fit refl (below fit) bk in_book o) fit
      (quiet_visit a x room was visit (below fit) (free_of op a asking fit refl)) needs_book
      (λ lost bk now e. in_gate room (same_number room) (e ∙ ap (puts_back a.book gates gates bk now c.log lost) (as_it_was x was visit))) new phase gave_up
