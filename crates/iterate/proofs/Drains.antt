-- Iterations that leave off and take back their calls, as the drain of the machine does.
use Rattle.std.specs.Prelude.{◌≡◌, ℕ, zero, suc, ◌+◌, Bool, true, false, ◌==◌, if◌then◌else◌, Option, Some, None, List, [], ◌∷◌, length, is_some, refl}
use Rattle.std.proofs.Common.{sym, ◌∙◌, ap, subst, add-one}
use Rattle.gx_base.specs.declared.acts.Step.{Step}
use Rattle.gx_base.specs.Plans.{Operator}
use Rattle.gx_base.specs.Replays.{put}
use Rattle.gate_core.specs.Views.{undo_last}
use Rattle.commit_book.specs.BookViews.{put_back}
use Rattle.speculation.specs.Events.{Event, Turn, then_turn}
use Rattle.speculation.specs.Machines.{Machine, Place, Turned, place_of, settled, let_go, undo_step, undo, turn_in, turn_at, turn}
use Rattle.speculation.specs.ScheduledRuns.{Run, then_turned, drain_step, drain_steps, drain_worker, drain}
use Rattle.speculation.specs.Sessions.{Session, Phase, Idle, Running, Finished, Undoing, is_idle, ended, undone_to, last_step, steps_before, has_no_step}
use Rattle.rooms.proofs.CallerLemmas.{put_same, put_itself}
use Rattle.rooms.specs.RoomsViews.{RoomsView}
use Rattle.rooms.specs.declared.values.Value.{Value}
use Rattle.sessions.specs.Places.{IsBody, IsFitIn}
use Rattle.iterate.specs.PlayedTurns.{MayTurn, IsTurn, IsStoppedTurn, with_undo}
use Rattle.sessions.specs.Turns.{may_stop_at}
use Rattle.sessions.specs.declared.events.Stop.{Stop}
use Rattle.sessions.specs.SessionViews.{OpenCommit, SessionView, left_off, with_left_off}

-- ---- an iteration that leaves off may take turns

module _ {T S : Type 0} (op : Operator) (rooms : RoomsView (Value T S)) where
  abbrev left_view : SessionView → SessionView
  left_view s = record s { at = with_left_off s.at; asked = None }

  body_left : (s : SessionView) (phase : Phase) → IsBody op s phase → IsBody op (left_view s) (left_off phase)
  body_left s Idle h = h
  body_left s (Running plan) h = tt
  body_left s Finished h = tt
  body_left s Undoing h = tt

  doing_left : (s : SessionView) (opened : Option OpenCommit) → opened ≡ None → IsFitIn op rooms s opened → IsFitIn op rooms (left_view s) opened
  doing_left s None n h = (h.0, body_left s s.at.phase h.1)
  doing_left s (Some made) n h = absurd (cc)

  left_may : (worker : ℕ) (s : SessionView) → MayTurn op rooms worker s → MayTurn op rooms worker (left_view s)
  left_may worker s h = record {
    worker_is = h.worker_is;
    closed = h.closed;
    fit = record {
      acts = h.fit.acts;
      book = h.fit.book;
      ordered = h.fit.ordered;
      ordered_told = h.fit.ordered_told;
      live = h.fit.live;
      live_told = h.fit.live_told;
      within = h.fit.within;
      doing = doing_left s s.opened h.closed h.fit.doing;
    };
  }

  pub may_leave_off : (worker : ℕ) (s t : SessionView) → t ≡ record s { at = with_left_off s.at; asked = None } → MayTurn op rooms worker s → MayTurn op rooms worker t
  may_leave_off worker s t e h = subst (MayTurn op rooms worker) (sym e) (left_may worker s h)

-- ---- a step of the drain

same_record : {P : Type 0} (b : Bool) (x y z : P) → b ≡ false → (if b then x else y) ≡ y
same_record b x y z e = ap (λ (c : Bool). if c then x else y) e

module _ (f : ℕ → Session) (worker : ℕ) where
  twice_by : (a b : Session) (n : ℕ) (c : Bool) → (if c then b else (if c then a else f n)) ≡ (if c then b else f n)
  twice_by a b n true = refl
  twice_by a b n false = refl

  put_twice : (a b : Session) → put (put f worker a) worker b ≡ put f worker b
  put_twice a b = λ i n. twice_by a b n (worker == n) i

-- what a step makes of a worker's session
abbrev step_at : Run → ℕ → Session → Run
step_at r worker s =
    let p : Place = record { gates = r.machine.gates; book = r.machine.book; session = s } in
    if is_idle s.phase then r
    else (if has_no_step s.outcome.steps then record r { machine = settled r.machine worker (let_go p worker s) } else then_turned r worker (undo p worker s))

-- the run in which the worker has left off
abbrev pub run_left : Run → ℕ → Run
run_left r worker = record r { machine = record r.machine { sessions = put r.machine.sessions worker (with_left_off (r.machine.sessions worker)) } }

module _ (r : Run) (worker : ℕ) where
  abbrev f : ℕ → Session
  f = r.machine.sessions

  settled_again : (a : Session) (p : Place) → settled (record r.machine { sessions = put f worker a }) worker p ≡ settled r.machine worker p
  settled_again a p = λ i. record { gates = p.gates; book = p.book; sessions = put_twice f worker a p.session i }

  undo_same : (s : Session) (o : Option Step) → undo_step (record { gates = r.machine.gates; book = r.machine.book; session = record s { phase = Undoing } }) worker (record s { phase = Undoing }) o
      ≡ undo_step (record { gates = r.machine.gates; book = r.machine.book; session = s }) worker s o
  undo_same s None = refl
  undo_same s (Some last) = refl

  -- where it isn't over
  live_step : (s : Session) → is_idle s.phase ≡ false → step_at (record r { machine = record r.machine { sessions = put f worker (record s { phase = Undoing }) } }) worker (record s { phase = Undoing }) ≡ step_at r worker s
  live_step s e =
      let p : Place = record { gates = r.machine.gates; book = r.machine.book; session = s } in
      let t : Session = record s { phase = Undoing } in
      let q : Place = record { gates = r.machine.gates; book = r.machine.book; session = t } in
      (λ i. if has_no_step s.outcome.steps then record r { machine = settled_again t (let_go p worker s) i }
      else record { machine = settled_again t (Turned.place (undo_same s (last_step s.outcome.steps) i)) i; trace = then_turn r.trace worker (Turned.event (undo_same s (last_step s.outcome.steps) i)) })
      ∙ sym (same_record (is_idle s.phase) r (if has_no_step s.outcome.steps then record r { machine = settled r.machine worker (let_go p worker s) } else then_turned r worker (undo p worker s)) r e)

  left_by : (s : Session) (phase : Phase) → s.phase ≡ phase → f worker ≡ s
      → step_at (record r { machine = record r.machine { sessions = put f worker (with_left_off s) } }) worker (with_left_off s) ≡ step_at r worker s
  left_by s Idle e h =
      let same : with_left_off s ≡ s = λ i. record s { phase = (ap left_off e ∙ sym e) i } in
      (λ i. step_at (record r { machine = record r.machine { sessions = put f worker (same i) } }) worker (same i))
      ∙ (λ i. step_at (record r { machine = record r.machine { sessions = put_itself f worker s h i } }) worker s)
  left_by s (Running plan) e h = let same : with_left_off s ≡ record s { phase = Undoing } = λ i. record s { phase = left_off (e i) } in
      (λ i. step_at (record r { machine = record r.machine { sessions = put f worker (same i) } }) worker (same i)) ∙ live_step s (ap is_idle e)
  left_by s Finished e h = let same : with_left_off s ≡ record s { phase = Undoing } = λ i. record s { phase = left_off (e i) } in
      (λ i. step_at (record r { machine = record r.machine { sessions = put f worker (same i) } }) worker (same i)) ∙ live_step s (ap is_idle e)
  left_by s Undoing e h = let same : with_left_off s ≡ record s { phase = Undoing } = λ i. record s { phase = left_off (e i) } in
      (λ i. step_at (record r { machine = record r.machine { sessions = put f worker (same i) } }) worker (same i)) ∙ live_step s (ap is_idle e)

  -- a step is the same whether the worker has left off before it
  pub step_left : drain_step (run_left r worker) worker ≡ drain_step r worker
  step_left =
      let s : Session = f worker in
      ap (step_at (run_left r worker) worker) (put_same f worker (with_left_off s)) ∙ left_by s s.phase refl refl

-- ---- a turn of an iteration that has left off is a step of the drain

module _ (op : Operator) (r : Run) (worker : ℕ) where
  abbrev s : Session
  s = r.machine.sessions worker

  abbrev p : Place
  p = place_of r.machine worker

  abbrev noted : Turned → Run
  noted turned = record { machine = settled r.machine worker turned.place; trace = with_undo r.trace worker turned.event }

  noted_by : (steps : List Step) → s.outcome.steps ≡ steps → noted (undo_step p worker s (last_step steps))
      ≡ (if has_no_step steps then record r { machine = settled r.machine worker (let_go p worker s) } else then_turned r worker (undo_step p worker s (last_step steps)))
  noted_by [] e = refl
  noted_by (x ∷ []) e = refl
  noted_by (x ∷ (y ∷ ys)) e = undone_noted (last_step (y ∷ ys)) (last_there y ys)
    where
      undone_noted : (o : Option Step) → is_some o ≡ true → noted (undo_step p worker s o) ≡ then_turned r worker (undo_step p worker s o)
      undone_noted None h = absurd (cc)
      undone_noted (Some last) h = refl

      last_there : (y : Step) (ys : List Step) → is_some (last_step (y ∷ ys)) ≡ true
      last_there y [] = refl
      last_there y (z ∷ zs) = last_there z zs

  undoing_by : (phase : Phase) → s.phase ≡ phase → left_off phase ≡ phase → is_idle phase ≡ false → noted (turn_in op p worker phase) ≡ drain_step r worker
  undoing_by Idle e l n = absurd (cc)
  undoing_by (Running plan) e l n = absurd (cc)
  undoing_by Finished e l n = absurd (cc)
  undoing_by Undoing e l n =
      noted_by s.outcome.steps refl
      ∙ sym (ap (λ (phase : Phase). if is_idle phase then r else (if has_no_step s.outcome.steps then record r { machine = settled r.machine worker (let_go p worker s) } else then_turned r worker (undo p worker s))) e)

  pub undoing_turn : left_off s.phase ≡ s.phase → is_idle s.phase ≡ false → noted (turn_at op p worker) ≡ drain_step r worker
  unfolding turn_at
  undoing_turn l n = undoing_by s.phase refl l n

  -- after which it has left off
  ended_left : (b : Bool) (x y : Place) → left_off x.session.phase ≡ x.session.phase → left_off y.session.phase ≡ y.session.phase → left_off (Place.session (if b then x else y)).phase ≡ (Place.session (if b then x else y)).phase
  ended_left true x y h k = h
  ended_left false x y h k = k

  undo_left : (o : Option Step) → left_off (Place.session (Turned.place (undo_step p worker s o))).phase ≡ (Place.session (Turned.place (undo_step p worker s o))).phase
  undo_left None = refl
  undo_left (Some last) =
      ended_left (has_no_step (steps_before s.outcome.steps)) (record { gates = put p.gates last.room (undo_last (p.gates last.room) worker s.iter); book = put_back p.book worker s.iter; session = ended s })
      (record { gates = put p.gates last.room (undo_last (p.gates last.room) worker s.iter); book = p.book; session = undone_to s (steps_before s.outcome.steps) }) refl refl

  turn_left_by : (phase : Phase) → left_off phase ≡ phase → is_idle phase ≡ false → left_off (Place.session (Turned.place (turn_in op p worker phase))).phase ≡ (Place.session (Turned.place (turn_in op p worker phase))).phase
  turn_left_by Idle l n = absurd (cc)
  turn_left_by (Running plan) l n = absurd (cc)
  turn_left_by Finished l n = absurd (cc)
  turn_left_by Undoing l n = undo_left (last_step s.outcome.steps)

  pub turn_left : left_off s.phase ≡ s.phase → is_idle s.phase ≡ false → left_off ((turn op r.machine worker).sessions worker).phase ≡ ((turn op r.machine worker).sessions worker).phase
  unfolding turn_at
  turn_left l n = subst (λ (x : Session). left_off x.phase ≡ x.phase) (sym (put_same r.machine.sessions worker (turn_at op p worker).place.session)) (turn_left_by s.phase l n)

-- ---- steps of the drain

pub one_more_step : (n : ℕ) (r : Run) (worker : ℕ) → drain_steps n (drain_step r worker) worker ≡ drain_step (drain_steps n r worker) worker
one_more_step zero r worker = refl
one_more_step (suc n) r worker = one_more_step n (drain_step r worker) worker

-- the steps after leaving off are those of the drain
pub steps_left : (r : Run) (worker : ℕ) → drain_step (drain_steps (length (r.machine.sessions worker).outcome.steps) (run_left r worker) worker) worker ≡ drain_worker r worker
unfolding drain_worker
steps_left r worker =
    let n = length (r.machine.sessions worker).outcome.steps in
    sym (one_more_step n (run_left r worker) worker) ∙ ap (λ (x : Run). drain_steps n x worker) (step_left r worker)

-- ---- turns of the drain

never_stops_at : (phase : Phase) → left_off phase ≡ phase → is_idle phase ≡ false → may_stop_at phase ≡ true → ⊥
never_stops_at Idle l n h = absurd (cc)
never_stops_at (Running plan) l n h = absurd (cc)
never_stops_at Finished l n h = absurd (cc)
never_stops_at Undoing l n h = absurd (cc)

module _ (op : Operator) (m : Machine) (worker : ℕ) (left : left_off (m.sessions worker).phase ≡ (m.sessions worker).phase) (live : is_idle (m.sessions worker).phase ≡ false) where
  pub never_stops : (stop : Stop) → IsStoppedTurn op m worker stop → ⊥
  never_stops stop h = never_stops_at (m.sessions worker).phase left live h.may

  pub drained_turn : (n : Machine) (trace traced : List Turn) (e : Event) → IsTurn op m n worker e → traced ≡ with_undo trace worker e → record { machine = n; trace = traced } ≡ drain_step (record { machine = m; trace = trace }) worker
  drained_turn n trace traced e h t =
      let after : Run = record { machine = n; trace = traced } in
      let noted : Run = record { machine = turn op m worker; trace = with_undo trace worker (turn_at op (place_of m worker) worker).event } in
      let same : after ≡ noted = λ i. record { machine = h.machine_is i; trace = (t ∙ ap (with_undo trace worker) h.event_is) i } in
      same ∙ undoing_turn op (record { machine = m; trace = trace }) worker left live

  pub left_after : (n : Machine) (e : Event) → IsTurn op m n worker e → left_off (n.sessions worker).phase ≡ (n.sessions worker).phase
  left_after n e h = subst (λ (k : Machine). left_off (k.sessions worker).phase ≡ (k.sessions worker).phase) (sym h.machine_is) (turn_left op (record { machine = m; trace = [] }) worker left live)

pub left_twice : (phase : Phase) → left_off (left_off phase) ≡ left_off phase
left_twice Idle = refl
left_twice (Running plan) = refl
left_twice Finished = refl
left_twice Undoing = refl

pub next_step : (n : ℕ) (r : Run) (worker : ℕ) → drain_steps (n + 1) r worker ≡ drain_step (drain_steps n r worker) worker
next_step n r worker = ap (λ k. drain_steps k r worker) (add-one n) ∙ one_more_step n r worker

-- so many steps after leaving off, and one more
pub last_step_left : (n : ℕ) (r now last : Run) (worker : ℕ) → n ≡ length (r.machine.sessions worker).outcome.steps → now ≡ drain_steps n (run_left r worker) worker → last ≡ drain_step now worker → last ≡ drain_worker r worker
last_step_left n r now last worker e h k = k ∙ ap (λ (x : Run). drain_step x worker) (h ∙ ap (λ j. drain_steps j (run_left r worker) worker) e) ∙ steps_left r worker

pub drain_none : (r : Run) → drain r 0 ≡ r
unfolding drain
drain_none r = refl

drain_suc : (r : Run) (n : ℕ) → drain r (suc n) ≡ drain_worker (drain r n) n
unfolding drain
drain_suc r n = refl

pub drain_next : (r : Run) (n : ℕ) → drain r (n + 1) ≡ drain_worker (drain r n) n
drain_next r n = ap (drain r) (add-one n) ∙ drain_suc r n
