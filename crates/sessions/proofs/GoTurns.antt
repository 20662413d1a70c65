-- A running session's turn, by where its body comes to.
use Rattle.std.specs.Prelude.{◌≡◌, ◌≢◌, ℕ, ◌<◌, true, ◌||◌, ◌==◌, not, if◌then◌else◌, Option, Some, None, List, [], ◌∷◌, ◌++◌, length, Result, Ok, Err, refl}
use Rattle.std.proofs.Common.{sym, ◌∙◌, ap, subst}
use Rattle.gx_base.specs.declared.acts.Entry.{Entry}
use Rattle.gx_base.specs.declared.acts.Step.{Step}
use Rattle.gx_base.specs.declared.calls.Call.{Call as CallOf}
use Rattle.gx_base.specs.declared.calls.Reply.{Reply}
use Rattle.gx_base.specs.declared.items.Item.{Item}
use Rattle.gx_base.specs.BodyRuns.{RunsTo}
use Rattle.gx_base.specs.Plans.{Plan, Call, Push, Done, Operator}
use Rattle.gx_base.specs.Worklists.{has_item, is_least}
use Rattle.gate_core.specs.CallAnswers.{Tells}
use Rattle.gate_core.specs.Views.{GateView, in_way, gate_rows, live_start}
use Rattle.commit_book.specs.BookViews.{BookView, is_named}
use Rattle.speculation.specs.Events as event
use Rattle.speculation.specs.Events.{Event}
use Rattle.speculation.specs.Limits.{limit_at}
use Rattle.speculation.specs.Machines.{Place, Turned, answer, ask, entry_of, committed, given_up, undo_step, finish, go, turn_at}
use Rattle.speculation.specs.Sessions.{Session, Phase, Idle, Running, Finished, Undoing, Ahead, Asks, Ends, ahead, undoing, last_step, has_no_step}
use Rattle.speculation.proofs.Sound.{IsSoFar}
use Rattle.speculation.proofs.Bodies.{ComesTo, comes_to}
use Rattle.speculation.proofs.Putting.{both_are, same_number}
use Rattle.rooms.specs.RoomsViews.{RoomsView}
use Rattle.rooms.specs.declared.values.Value.{Value}
use Rattle.sessions.specs.declared.events.Event.{Event as CodeEvent}
use Rattle.sessions.specs.declared.events.Event.TheVariants as events
use Rattle.sessions.specs.declared.events.Stop.{Stop}
use Rattle.sessions.specs.declared.events.Stop.TheVariants as stops
use Rattle.sessions.specs.declared.session.Phase.{Phase as CodePhase}
use Rattle.sessions.specs.declared.session.Phase.TheVariants as code
use Rattle.sessions.specs.Bodies.{IsAtWork, IsAskedIn, HasAsked, HasGoneOn}
use Rattle.sessions.specs.Needs.{come_to, gone_on, to_put_back, needs_in, needs}
use Rattle.sessions.specs.Places.{IsFit, IsBody, IsAskedWithin}
use Rattle.sessions.specs.RoomLists.{is_room_among, rooms_of}
use Rattle.sessions.specs.SessionViews.{Rests, Core, SessionView, at_in, view_in, phase_of}
use Rattle.sessions.specs.SharedTurns.{Shared, cut_at, shared_in, given_back, stopped_at, pushes_by}
use Rattle.sessions.specs.TurnMoves.{turn_moves, StopMoves, in_no_room}
use Rattle.sessions.specs.Turns.{TakesTurn, HasTurned, Answers, HasMoved, IsAfter, TellsRight, GoesWell, IsCutIn, IsCause, event_of, limit_on, is_conflict, is_commit, may_stop_at}
use Rattle.sessions.specs.Visits.{GaveUp}
use Rattle.sessions.proofs.BookTurns.{free_of, body_of}
use Rattle.sessions.proofs.CallTurns.{asked_call, stands_with, stopped_turn}
use Rattle.sessions.proofs.GivingUp.{quiet_itself}
use Rattle.sessions.proofs.Standing.{base_gates}
use Rattle.sessions.proofs.UndoTurns.{or_left, or_right}

-- ---- turns depend on a place's gates and book alone, where the session is given

module _ (gates : ℕ → GateView) (bk : BookView) (one two : Session) (worker : ℕ) where
  abbrev at : Session → Place
  at s = record { gates = gates; book = bk; session = s }

  answer_same : (s : Session) (room : ℕ) (call : CallOf) (goes_on : Reply → Plan) (e : Entry) (o : Option ℕ) → answer (at one) worker s room call goes_on e o ≡ answer (at two) worker s room call goes_on e o
  answer_same s room call goes_on e None = refl
  answer_same s room call goes_on e (Some place) = refl

  ask_same : (s : Session) (room : ℕ) (call : CallOf) (goes_on : Reply → Plan) → ask (at one) worker s room call goes_on ≡ ask (at two) worker s room call goes_on
  ask_same s room call goes_on = answer_same s room call goes_on (entry_of (at one) worker s room call) (in_way (gates room) (entry_of (at one) worker s room call))

  undo_same_by : (s : Session) (o : Option Step) → undo_step (at one) worker s o ≡ undo_step (at two) worker s o
  undo_same_by s None = refl
  undo_same_by s (Some last) = refl

  finish_same : (s : Session) → finish (at one) worker s ≡ finish (at two) worker s
  finish_same s = λ i.
      if is_named bk worker s.iter then undo_same_by s (last_step s.outcome.steps) i
      else (if has_item bk.ready s.item
      then (if not bk.ordered || is_least bk.ready s.item then record { event = event.Commit (length bk.commits); place = committed (at one) worker s } else record { event = event.Wait; place = record (at one) { session = s } })
      else record { event = event.Drop; place = given_up (at one) worker s })

-- a turn is the same once the body has gone on
go_same : (op : Operator) (gates : ℕ → GateView) (bk : BookView) (worker : ℕ) (first s : Session) (plan : Plan) (pushes : List Item)
    → go (record { gates = gates; book = bk; session = first }) worker (ahead s plan pushes) ≡ turn_at op (record { gates = gates; book = bk; session = come_to (ahead s plan pushes) }) worker
unfolding turn_at
go_same op gates bk worker first s (Call room call goes_on) pushes =
    let t : Session = come_to (ahead s (Call room call goes_on) pushes) in
    ask_same gates bk first t worker t room call goes_on
go_same op gates bk worker first s (Push item rest) pushes = go_same op gates bk worker first s rest (pushes ++ item ∷ [])
go_same op gates bk worker first s Done pushes = let t : Session = come_to (ahead s Done pushes) in finish_same gates bk first t worker t

-- and it goes on no further
gone_already : (s : Session) (plan : Plan) (pushes : List Item) → gone_on (come_to (ahead s plan pushes)) ≡ come_to (ahead s plan pushes)
gone_already s (Call room call goes_on) pushes = refl
gone_already s (Push item rest) pushes = gone_already s rest (pushes ++ item ∷ [])
gone_already s Done pushes = refl

-- ---- what the body has done

abbrev IsBodyIn : Plan → Session → Phase → Type 0
IsBodyIn whole s Idle = ⊥
IsBodyIn whole s (Running plan) = RunsTo whole s.outcome.steps s.outcome.pushes plan
IsBodyIn whole s Finished = RunsTo whole s.outcome.steps s.outcome.pushes Done
IsBodyIn whole s Undoing = ⊥

body_come : (whole : Plan) (s : Session) (a : Ahead) → ComesTo whole s a → IsBodyIn whole (come_to a) (come_to a).phase
body_come whole s (Asks t room call goes_on) h = subst (IsBodyIn whole t) (sym h.1) h.0.runs
body_come whole s (Ends t) h = subst (IsBodyIn whole t) (sym h.1) h.0.whole

needs_gone : (book : ℕ) (s : Session) (plan : Plan) (pushes : List Item) → has_no_step s.outcome.steps ≡ true → needs_in book (come_to (ahead s plan pushes)) None book ≡ true
needs_gone book s (Call room call goes_on) pushes e = or_right (room == book) (to_put_back book s.outcome.steps book) (both_are (has_no_step s.outcome.steps) (book == book) e (same_number book))
needs_gone book s (Push item rest) pushes e = needs_gone book s rest (pushes ++ item ∷ []) e
needs_gone book s Done pushes e = or_left (book == book) (is_room_among (rooms_of s.outcome.steps) book) (same_number book)

-- ---- the turn

module _ {T S : Type 0} (op : Operator) (a b : RoomsView (Value T S)) (c : Core) (pushes : List Item) (plan : Plan) (phase : Phase) (asked after_asked : Option ℕ) where
  -- the session before its body goes on, and after that
  abbrev running : SessionView
  running = record { worker = c.worker; at = record { phase = Running plan; iter = c.iter; item = c.item; outcome = record { steps = c.log; pushes = c.pushes; withdrawn = [] }; next_iter = c.next_iter }; asked = asked; opened = None; pushed = c.pushed }

  abbrev gone : SessionView
  gone = record { worker = c.worker; at = record { phase = phase; iter = c.iter; item = c.item; outcome = record { steps = c.log; pushes = pushes; withdrawn = [] }; next_iter = c.next_iter }; asked = after_asked; opened = None; pushed = c.pushed }

  module _ (come : gone.at ≡ gone_on running.at) where
    come_further : gone_on gone.at ≡ gone_on running.at
    come_further = ap gone_on come ∙ gone_already running.at plan c.pushes

    module _ (gates : ℕ → GateView) (bk : BookView) where
      abbrev before : Place
      before = record { gates = gates; book = bk; session = running.at }

      abbrev further : Place
      further = record { gates = gates; book = bk; session = gone.at }

      turns : turn_at op before c.worker ≡ turn_at op further c.worker
      unfolding turn_at
      turns = go_same op gates bk c.worker running.at running.at plan c.pushes ∙ ap (λ (s : Session). turn_at op (record { gates = gates; book = bk; session = s }) c.worker) (sym come)

      cut_same : (book : ℕ) (s : Session) (pushed : List Item) (f : Phase) (room : ℕ) → cut_at op book further c.worker s pushed f room ≡ cut_at op book before c.worker s pushed f room
      cut_same book s pushed Idle room = refl
      cut_same book s pushed (Running rest) room = λ i.
          if book == room then record { event = (sym turns i).event; place = record { gates = gates; book = bk; session = undoing s }; opened = None; pushed = pushed } else record { event = event.Busy; place = record { gates = gates; book = bk; session = s }; opened = None; pushed = pushed }
      cut_same book s pushed Finished room = refl
      cut_same book s pushed Undoing room = refl

      shared_same : (lost : Option ℕ) → shared_in op a.book gone further None lost ≡ shared_in op a.book running before None lost
      shared_same None = λ i. record {
        event = (sym turns i).event;
        place = (sym turns i).place;
        opened = None;
        pushed = pushes_by (sym turns i).event c.pushed (come_further i).outcome.pushes;
      }
      shared_same (Some room) = (λ i. cut_at op a.book further c.worker (come_further i) c.pushed (come_further i).phase room) ∙ cut_same a.book (gone_on running.at) c.pushed (gone_on running.at).phase room

      limit_same : limit_on op further c.worker ≡ limit_on op before c.worker
      limit_same = λ i. limit_at (sym turns i).event bk (length c.log)

      cut_well : (f : Phase) (room : ℕ) → IsCutIn op a.book further c.worker f room → IsCutIn op a.book before c.worker f room
      cut_well Idle room h = tt
      cut_well (Running rest) room h = λ e. ap (λ (u : Turned). is_conflict u.event) turns ∙ h e
      cut_well Finished room h = λ e. ((h e).0, λ n. (ap (λ (u : Turned). is_commit u.event) turns ∙ ((h e).1 n).0, sym limit_same ∙ ((h e).1 n).1))
      cut_well Undoing room h = tt

      goes_well : (lost : Option ℕ) → GoesWell op a.book further c.worker None lost → GoesWell op a.book before c.worker None lost
      goes_well None h = sym limit_same ∙ h
      goes_well (Some room) h = cut_well (gone_on running.at).phase room (subst (λ (s : Session). IsCutIn op a.book further c.worker s.phase room) come_further h)

      tells_same : (e : CodeEvent) → TellsRight further c.worker e → TellsRight before c.worker e
      tells_same (events.Take item) h = tt
      tells_same (events.Call room call reply) h = tt
      tells_same (events.Conflict room told) h =
          (h.0, subst (λ (s : Session). Tells (gate_rows (gates room)) (live_start (gates room)) (gates room).live (entry_of before c.worker s room told.asked) told h.0) come_further h.1)
      tells_same (events.Undo room call) h = tt
      tells_same (events.Commit number) h = tt
      tells_same events.Wait h = tt
      tells_same events.Drop h = tt
      tells_same events.Idle h = tt
      tells_same events.Busy h = tt

      cause_same : (stop : Stop) → IsCause stop (limit_on op further c.worker) → IsCause stop (limit_on op before c.worker)
      cause_same stop h = subst (IsCause stop) limit_same h

      stopped_same : (lost : Option ℕ) → given_back further c.worker lost ≡ given_back before c.worker lost
      stopped_same None = refl
      stopped_same (Some room) = refl

      -- the session after its body has gone on may stop
      stopped_by : (f : Phase) → phase ≡ f → may_stop_at f ≡ true → f ≢ Idle → (lost : Option ℕ) → stopped_at further c.worker phase lost ≡ given_back further c.worker lost
      stopped_by Idle e m n lost = absurd (n refl)
      stopped_by (Running rest) e m n lost = ap (λ g. stopped_at further c.worker g lost) e
      stopped_by Finished e m n lost = ap (λ g. stopped_at further c.worker g lost) e
      stopped_by Undoing e m n lost = absurd (cc)

      -- the moves are told by the session as it has gone on
      moved_same : (first : Session) (q : Place) (lost : Option ℕ) (r : Result CodeEvent Stop) → HasMoved a.book gone (record { gates = gates; book = bk; session = first }) q lost r a.moves b.moves → HasMoved a.book running before q lost r a.moves b.moves
      moved_same first q lost (Ok e) h = subst (λ (s : Session). b.moves ≡ turn_moves a.book gates q.gates bk q.book c.worker s None lost (event_of e) a.moves) come_further h
      moved_same first q lost (Err stop) h = subst (λ (s : Session). StopMoves a.book gates q.gates bk q.book stop s.phase c.log lost a.moves b.moves) come_further h

      answers_same : (t : SessionView) (q : Place) (lost : Option ℕ) (r : Result CodeEvent Stop) → phase ≢ Idle → Answers op a.book gone t further q lost r → Answers op a.book running t before q lost r
      answers_same t q lost (Ok e) n h = (subst (λ (x : Shared). IsAfter x (event_of e) t q) (shared_same lost) h.0, tells_same e h.1, goes_well lost h.2)
      answers_same t q lost (Err stop) n h = record {
        may = refl;
        cause = cause_same stop h.cause;
        held = h.held;
        place_is = h.place_is ∙ stopped_by phase refl h.may n lost ∙ stopped_same lost;
        opened_is = h.opened_is;
        pushed_is = h.pushed_is;
      }

    pub goes_on_first : (t : SessionView) (r : Result CodeEvent Stop) → phase ≢ Idle → TakesTurn op a b gone t r → TakesTurn op a b running t r
    goes_on_first t r n k =
        let h : HasTurned op a b gone t r = k.has_turned in
        let p_is : h.p ≡ record { gates = h.p.gates; book = h.p.book; session = gone.at } = λ i. record { gates = h.p.gates; book = h.p.book; session = h.stood.session_is i } in
        record {
          has_turned = record {
            p = record { gates = h.p.gates; book = h.p.book; session = running.at };
            q = h.q;
            lost = h.lost;
            stood = record { session_is = refl; gates = h.stood.gates; no_others = h.stood.no_others; logs = h.stood.logs; book = h.stood.book; ordered = h.stood.ordered };
            stands = h.stands;
            found = record {
              needed = λ room e. subst (λ (s : Session). needs_in a.book s None room ≡ true) come_further (h.found.needed room e);
              risen = h.found.risen;
              others = h.found.others;
            };
            answers = answers_same h.p.gates h.p.book t h.q h.lost r n (subst (λ (x : Place). Answers op a.book gone t x h.q h.lost r) p_is h.answers);
            moved = moved_same h.p.gates h.p.book h.p.session h.q h.lost r h.moved;
            same_rooms = h.same_rooms;
            same_worker = h.same_worker;
          };
          is_fit = k.is_fit;
        }

    body_gone : IsFit op a running → IsBodyIn (op.plan c.item) gone.at phase
    body_gone fit =
        let so_far : IsSoFar (op.plan c.item) (record running.at.outcome { pushes = c.pushes }) plan = record { runs = (body_of op a running fit refl).0; withdraws_nothing = refl } in
        subst (λ (s : Session). IsBodyIn (op.plan c.item) s s.phase) (sym come) (body_come (op.plan c.item) running.at (ahead running.at plan c.pushes) (comes_to (op.plan c.item) running.at plan c.pushes so_far))

    body_fits : (f : Phase) → IsBodyIn (op.plan c.item) gone.at f → IsAskedWithin op.rooms after_asked → IsBody op gone f
    body_fits Idle h m = absurd h
    body_fits (Running rest) h m = (h, m)
    body_fits Finished h m = h
    body_fits Undoing h m = tt

    pub gone_fits : IsFit op a running → IsAskedWithin op.rooms after_asked → IsFit op a gone
    gone_fits fit m = record {
      acts = fit.acts;
      book = fit.book;
      ordered = fit.ordered;
      ordered_told = fit.ordered_told;
      live = fit.live;
      live_told = fit.live_told;
      within = fit.within;
      doing = (free_of op a running fit refl, body_fits phase (body_gone fit) m);
    }

  needs_running : has_no_step c.log ≡ true → needs a.book running a.book ≡ true
  needs_running e = needs_gone a.book running.at plan c.pushes e

-- ---- the code's phases

asked_below : (room : ℕ) (call : CallOf) {n : ℕ} (asked : Option (ℕ × CallOf)) → asked ≡ asked_call room call → IsAskedIn n asked → room < n
asked_below room call {n} asked e h = let k : IsAskedIn n (asked_call room call) = subst (IsAskedIn n) e h in k

not_idle : (plan : Plan) → Running plan ≢ Idle
not_idle plan e = cc

finished_not_idle : Finished ≢ Idle
finished_not_idle e = cc

module _ {T S St : Type 0} (op : Operator) (a b : RoomsView (Value T S)) (rest : Rests St) (c : Core) (pushes : List Item) where
  abbrev further_core : Core
  further_core = record c { pushes = pushes }

  lift_by : (f g : CodePhase St) (asked : Option (ℕ × CallOf)) → IsAtWork f → HasAsked asked g → at_in rest further_core g ≡ gone_on (at_in rest c f) → (t : SessionView) (r : Result CodeEvent Stop)
      → TakesTurn op a b (view_in rest further_core g) t r → TakesTurn op a b (view_in rest c f) t r
  lift_by code.Idle g asked w k e t r h = absurd w
  lift_by (code.Running st last) code.Idle asked w k e t r h = absurd k
  lift_by (code.Running st last) (code.Running to reply) asked w k e t r h = absurd k
  lift_by (code.Running st last) (code.Asking to room call) asked w k e t r h =
      goes_on_first op a b c pushes (rest st last) (phase_of rest (code.Asking to room call)) None (Some room) e t r (not_idle (Call room call (λ reply. rest to (Some reply)))) h
  lift_by (code.Running st last) code.Finished asked w k e t r h = goes_on_first op a b c pushes (rest st last) Finished None None e t r finished_not_idle h
  lift_by (code.Running st last) (code.Committing book number left) asked w k e t r h = absurd k
  lift_by (code.Running st last) code.Undoing asked w k e t r h = absurd k
  lift_by (code.Asking st x y) code.Idle asked w k e t r h = absurd k
  lift_by (code.Asking st x y) (code.Running to reply) asked w k e t r h = absurd k
  lift_by (code.Asking st x y) (code.Asking to room call) asked w k e t r h =
      goes_on_first op a b c pushes (Call x y (λ reply. rest st (Some reply))) (phase_of rest (code.Asking to room call)) (Some x) (Some room) e t r (not_idle (Call room call (λ reply. rest to (Some reply)))) h
  lift_by (code.Asking st x y) code.Finished asked w k e t r h = goes_on_first op a b c pushes (Call x y (λ reply. rest st (Some reply))) Finished (Some x) None e t r finished_not_idle h
  lift_by (code.Asking st x y) (code.Committing book number left) asked w k e t r h = absurd k
  lift_by (code.Asking st x y) code.Undoing asked w k e t r h = absurd k
  lift_by code.Finished g asked w k e t r h = absurd w
  lift_by (code.Committing book number left) g asked w k e t r h = absurd w
  lift_by code.Undoing g asked w k e t r h = absurd w

  fits_by : (f g : CodePhase St) (asked : Option (ℕ × CallOf)) → IsAtWork f → HasAsked asked g → IsAskedIn op.rooms asked → at_in rest further_core g ≡ gone_on (at_in rest c f) → IsFit op a (view_in rest c f) → IsFit op a (view_in rest further_core g)
  fits_by code.Idle g asked w k m e fit = absurd w
  fits_by (code.Running st last) code.Idle asked w k m e fit = absurd k
  fits_by (code.Running st last) (code.Running to reply) asked w k m e fit = absurd k
  fits_by (code.Running st last) (code.Asking to room call) asked w k m e fit =
      gone_fits op a a c pushes (rest st last) (phase_of rest (code.Asking to room call)) None (Some room) e fit (asked_below room call asked k m)
  fits_by (code.Running st last) code.Finished asked w k m e fit = gone_fits op a a c pushes (rest st last) Finished None None e fit tt
  fits_by (code.Running st last) (code.Committing book number left) asked w k m e fit = absurd k
  fits_by (code.Running st last) code.Undoing asked w k m e fit = absurd k
  fits_by (code.Asking st x y) code.Idle asked w k m e fit = absurd k
  fits_by (code.Asking st x y) (code.Running to reply) asked w k m e fit = absurd k
  fits_by (code.Asking st x y) (code.Asking to room call) asked w k m e fit =
      gone_fits op a a c pushes (Call x y (λ reply. rest st (Some reply))) (phase_of rest (code.Asking to room call)) (Some x) (Some room) e fit (asked_below room call asked k m)
  fits_by (code.Asking st x y) code.Finished asked w k m e fit = gone_fits op a a c pushes (Call x y (λ reply. rest st (Some reply))) Finished (Some x) None e fit tt
  fits_by (code.Asking st x y) (code.Committing book number left) asked w k m e fit = absurd k
  fits_by (code.Asking st x y) code.Undoing asked w k m e fit = absurd k
  fits_by code.Finished g asked w k m e fit = absurd w
  fits_by (code.Committing book number left) g asked w k m e fit = absurd w
  fits_by code.Undoing g asked w k m e fit = absurd w

module _ {T S St : Type 0} (op : Operator) (a b : RoomsView (Value T S)) (rest : Rests St) (c new : Core) (f g : CodePhase St) (asked : Option (ℕ × CallOf)) (w : IsAtWork f) (h : HasGoneOn rest c new f g asked) where
  pub go_lift : (t : SessionView) (r : Result CodeEvent Stop) → TakesTurn op a b (view_in rest new g) t r → TakesTurn op a b (view_in rest c f) t r
  go_lift t r k =
      subst (λ (x : Core). at_in rest x g ≡ gone_on (at_in rest c f) → TakesTurn op a b (view_in rest x g) t r → TakesTurn op a b (view_in rest c f) t r) (sym h.core) (λ e m. lift_by op a b rest c new.pushes f g asked w h.phase e t r m) h.at k

  pub go_fits : IsAskedIn op.rooms asked → IsFit op a (view_in rest c f) → IsFit op a (view_in rest new g)
  go_fits m fit =
      subst (λ (x : Core). at_in rest x g ≡ gone_on (at_in rest c f) → IsFit op a (view_in rest x g)) (sym h.core) (λ e. fits_by op a b rest c new.pushes f g asked w h.phase m e fit) h.at

-- ---- memory is wanting before the body has gone on

module _ {T S St : Type 0} (op : Operator) (a b : RoomsView (Value T S)) (rest : Rests St) (c new : Core) (phase : CodePhase St) where
  pub go_stops : (f : CodePhase St) → IsAtWork f → IsFit op a (view_in rest c f) → GaveUp a b (record c { pushes = [] }) new phase → TakesTurn op a b (view_in rest c f) (view_in rest new phase) (Err stops.NoMemory)
  go_stops code.Idle w fit k = absurd w
  go_stops (code.Running st last) w fit k =
      stopped_turn op a a b rest c (view_in rest c (code.Running st last)) (rest st last) None refl (base_gates a) (λ bk in_book o. stands_with op a (view_in rest c (code.Running st last)) fit refl bk in_book o) fit (quiet_itself a (free_of op a (view_in rest c (code.Running st last)) fit refl))
      (needs_running op a b c [] (rest st last) Idle None None) (λ lost bk now e. in_no_room e) new phase k
  go_stops (code.Asking st x y) w fit k =
      stopped_turn op a a b rest c (view_in rest c (code.Asking st x y)) (Call x y (λ reply. rest st (Some reply))) (Some x) refl (base_gates a) (λ bk in_book o. stands_with op a (view_in rest c (code.Asking st x y)) fit refl bk in_book o) fit (quiet_itself a (free_of op a (view_in rest c (code.Asking st x y)) fit refl))
      (needs_running op a b c [] (Call x y (λ reply. rest st (Some reply))) Idle (Some x) None) (λ lost bk now e. in_no_room e) new phase k
  go_stops code.Finished w fit k = absurd w
  go_stops (code.Committing book number left) w fit k = absurd w
  go_stops code.Undoing w fit k = absurd w
