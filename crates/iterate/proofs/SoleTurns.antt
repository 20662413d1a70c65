-- A turn in rooms that one caller enters for all workers is that of the machine, and leaves the other sessions fit.
use Rattle.std.specs.Prelude.{◌≡◌, ◌⊎◌, ℕ, ◌<◌, ◌≤◌, Bool, true, false, ◌==◌, Option, Some, None, List, [], ◌∷◌, ◌++◌, is_some, Result, Ok, Err, IfOk, refl}
use Rattle.std.proofs.Common.{sym, ◌∙◌, ap, subst, inl, inr, arith}
use Rattle.std.proofs.lemmas.Bool.{cases_lt}
use Rattle.gx_base.specs.declared.acts.Entry.{Entry}
use Rattle.gx_base.specs.declared.acts.Step.{Step}
use Rattle.gx_base.specs.declared.calls.Call.{Call as CallOf}
use Rattle.gx_base.specs.declared.calls.Reply.{Reply}
use Rattle.gx_base.specs.declared.items.Item.{Item}
use Rattle.gx_base.specs.Entries.{entries_by}
use Rattle.gx_base.specs.Meanings.{IsCall}
use Rattle.gx_base.specs.Plans.{Plan, Call, Push, Done, Operator}
use Rattle.gx_base.specs.Replays.{put}
use Rattle.gx_base.specs.RoomViews.{is_book}
use Rattle.gate_core.specs.Views.{GateView}
use Rattle.commit_book.specs.BookViews.{BookView}
use Rattle.speculation.specs.Machines.{Machine, Place, place_of, settled, answer, go, turn_in, turn_at}
use Rattle.speculation.specs.Premises.{IsNextCall, AsksCall}
use Rattle.speculation.specs.Sessions.{Session, Phase, Idle, Running, Finished, Undoing, ahead}
use Rattle.speculation.proofs.Putting.{no_bool, same_number}
use Rattle.rooms.specs.RoomsViews.{RoomsView, is_room_held}
use Rattle.rooms.specs.HandedOut.{CountHasRisen}
use Rattle.rooms.specs.Values.{tells}
use Rattle.rooms.specs.Visits.{AreTold}
use Rattle.rooms.specs.declared.values.Value.{Value}
use Rattle.rooms.specs.declared.values.Value.TheVariants.{Object, Book}
use Rattle.sessions.specs.declared.events.Event.{Event as CodeEvent}
use Rattle.sessions.specs.declared.events.Stop.{Stop}
use Rattle.sessions.specs.Places.{IsLogIn, IsFit, IsFitIn, no_gate, gate_of, book_of, IfTold, IsBookIn, StandsOn}
use Rattle.iterate.specs.PlayedTurns.{machine_of, MayTurn, TellsCall, TurnAnswers}
use Rattle.iterate.specs.Plays.{gate_in, book_in}
use Rattle.sessions.specs.SessionViews.{OpenCommit, SessionView}
use Rattle.sessions.specs.Turns.{event_of, IsLostIn, may_stop_at, Answers, OthersStay, AreSameRooms, HasTurned}
use Rattle.sessions.proofs.CallerLemmas.{log_shown, log_hidden}

-- ---- what is asked next

module _ (p : Place) (worker : ℕ) where
  answer_asks : (s : Session) (room : ℕ) (call : CallOf) (goes_on : Reply → Plan) (asked : Entry) (o : Option ℕ) → TellsCall (answer p worker s room call goes_on asked o).event → IsCall call
  answer_asks s room call goes_on asked None h = h
  answer_asks s room call goes_on asked (Some place) h = h

  next_asks : (s : Session) (plan : Plan) (pushes : List Item) → TellsCall (go p worker (ahead s plan pushes)).event → IsNextCall plan
  next_asks s (Call room call goes_on) pushes h = answer_asks _ room call goes_on _ _ h
  next_asks s (Push item rest) pushes h = next_asks s rest (pushes ++ item ∷ []) h
  next_asks s Done pushes h = tt

  asks_in : (op : Operator) (phase : Phase) → TellsCall (turn_in op p worker phase).event → AsksCall phase
  asks_in op Idle h = tt
  asks_in op (Running plan) h = next_asks p.session plan p.session.outcome.pushes h
  asks_in op Finished h = tt
  asks_in op Undoing h = tt

  pub asks : (op : Operator) → TellsCall (turn_at op p worker).event → AsksCall p.session.phase
  unfolding turn_at
  asks op h = asks_in op p.session.phase h

-- ---- entries of other workers

-- a log is told by the entries of its worker
pub other_log : (other : ℕ) (room iter : ℕ) (item : Item) (steps : List Step) (before after : List Entry) → entries_by other after ≡ entries_by other before → IsLogIn room other iter item steps before → IsLogIn room other iter item steps after
other_log other room iter item steps before after e h =
    log_shown (λ w. w == other) other iter item (same_number other) room steps after
    (subst (λ es. IsLogIn room other iter item steps es) (sym e) (log_hidden (λ w. w == other) other iter item (same_number other) room steps before h))

module _ {T S : Type 0} where
  -- ---- what is told

  gate_told : (o : Option (Value T S)) (g : GateView) → is_some o ≡ true → IfTold o (λ value. g ≡ gate_of value) → g ≡ gate_in o
  gate_told None g t h = absurd (cc)
  gate_told (Some value) g t h = h

  book_told : (o : Option (Value T S)) (b : BookView) → is_some o ≡ true → IfTold o (λ value. b ≡ book_of value) → b ≡ book_in o
  book_told None b t h = absurd (cc)
  book_told (Some value) b t h = h

  no_gate_in : (o : Option (Value T S)) → ((value : Value T S) → o ≡ Some value → is_book (tells value).origin ≡ true) → no_gate ≡ gate_in o
  no_gate_in None h = refl
  no_gate_in (Some (Object gate)) h = absurd (no_bool false (h (Object gate) refl) refl)
  no_gate_in (Some (Book book)) h = refl

  other_told : (o n : Option (Value T S)) (other room iter : ℕ) (item : Item) (steps : List Step) (worker : ℕ) → (other == worker) ≡ false → is_some n ≡ is_some o
      → IfTold o (λ was. IfTold n (λ now. OthersStay worker (gate_of was).live (gate_of now).live)) → IfTold o (λ value. IsLogIn room other iter item steps (gate_of value).live) → IfTold n (λ value. IsLogIn room other iter item steps (gate_of value).live)
  other_told None None other room iter item steps worker ne t h l = tt
  other_told None (Some now) other room iter item steps worker ne t h l = absurd (cc)
  other_told (Some was) None other room iter item steps worker ne t h l = tt
  other_told (Some was) (Some now) other room iter item steps worker ne t h l = other_log other room iter item steps (gate_of was).live (gate_of now).live (h other ne) l

  -- ---- the place that a session stands on is the machine's

  module _ (a : RoomsView (Value T S)) (told : AreTold tells a) where
    book_past : (room : ℕ) → a.book ≤ room → (value : Value T S) → a.told room ≡ Some value → is_book (tells value).origin ≡ true
    book_past room above value e = by_place (cases_lt a.book room)
      where
        by_place : (a.book < room) ⊎ (room ≤ a.book) → is_book (tells value).origin ≡ true
        by_place (inl past) = absurd (no_bool false (ap is_some (sym (told.no_more room past) ∙ e)) refl)
        by_place (inr upto) = let same : room ≡ a.book = omega arith in (told.suits room value e).book_where ∙ subst (λ k. (room == k) ≡ true) same (same_number room)

    gates_by : (p : Place) (s : SessionView) → StandsOn a s p → (room : ℕ) → (room < a.book) ⊎ (a.book ≤ room) → p.gates room ≡ gate_in (a.told room)
    gates_by p s h room (inl below) = gate_told (a.told room) (p.gates room) (told.there room (omega arith)) (h.gates room below)
    gates_by p s h room (inr above) = h.no_others room above ∙ no_gate_in (a.told room) (book_past room above)

    pub gates_told : (p : Place) (s : SessionView) → StandsOn a s p → (room : ℕ) → p.gates room ≡ gate_in (a.told room)
    gates_told p s h room = gates_by p s h room (cases_lt room a.book)

    book_by : (p : Place) (opened : Option OpenCommit) → opened ≡ None → IsBookIn a opened p.book → p.book ≡ book_in (a.told a.book)
    book_by p None n h = book_told (a.told a.book) p.book (told.there a.book (omega arith)) h
    book_by p (Some made) n h = absurd (cc)

    pub book_is_told : (p : Place) (s : SessionView) → StandsOn a s p → s.opened ≡ None → p.book ≡ book_in (a.told a.book)
    book_is_told p s h closed = book_by p s.opened closed h.book

    pub stands_there : (p : Place) (s : SessionView) (worker : ℕ) (sessions : ℕ → Session) → StandsOn a s p → s.opened ≡ None → sessions worker ≡ s.at → p ≡ place_of (machine_of a sessions) worker
    stands_there p s worker sessions h closed here = λ i. record { gates = λ room. gates_told p s h room i; book = book_is_told p s h closed i; session = (h.session_is ∙ sym here) i }

    pub settles_there : (p : Place) (s : SessionView) (worker : ℕ) (sessions : ℕ → Session) (m : Machine) → StandsOn a s p → s.opened ≡ None → m.sessions ≡ sessions → settled m worker p ≡ machine_of a (put sessions worker s.at)
    settles_there p s worker sessions m h closed same = λ i. record { gates = λ room. gates_told p s h room i; book = book_is_told p s h closed i; sessions = put (same i) worker (h.session_is i) }

  -- ---- the turn

  module _ (op : Operator) (a b : RoomsView (Value T S)) (s t : SessionView) (worker : ℕ) (told_a : AreTold tells a) (told_b : AreTold tells b) (may : MayTurn op a worker s)
      (never : (room : ℕ) → CountHasRisen (a.lost room) (b.lost room) → ⊥) where
    none_lost : (lost : Option ℕ) → IsLostIn a b s lost → lost ≡ None
    none_lost None h = refl
    none_lost (Some room) h = absurd (never room (h.risen room refl))

    abbrev AnswersClosed : (p q : Place) → Result CodeEvent Stop → Type 0
    AnswersClosed p q result = Answers op a.book (record s { worker = worker; opened = None }) t p q None result

    closed_answers : (result : Result CodeEvent Stop) (p q : Place) (lost : Option ℕ) → lost ≡ None → Answers op a.book s t p q lost result → AnswersClosed p q result
    closed_answers result p q lost none h =
        subst (λ (o : Option ℕ). Answers op a.book (record s { worker = worker; opened = None }) t p q o result) none
        (subst (λ (o : Option OpenCommit). Answers op a.book (record s { worker = worker; opened = o }) t p q lost result) may.closed
        (subst (λ (w : ℕ). Answers op a.book (record s { worker = w }) t p q lost result) may.worker_is h))

    -- it makes no commit over several turns
    closed_after : (result : Result CodeEvent Stop) (p q : Place) → AnswersClosed p q result → t.opened ≡ None
    closed_after (Ok event) p q h = h.0.opened_is
    closed_after (Err stop) p q h = h.opened_is

    module _ (sessions : ℕ → Session) (here : sessions worker ≡ s.at) where
      abbrev M : Machine
      M = machine_of a sessions

      answered : (result : Result CodeEvent Stop) (p q : Place) → StandsOn b t q → p ≡ place_of M worker → t.opened ≡ None → IfOk result (λ event. TellsCall (event_of event)) → AnswersClosed p q result
          → TurnAnswers op M (machine_of b (put sessions worker t.at)) worker result
      answered (Ok event) p q stands is closed call h =
          let k : AnswersClosed (place_of M worker) q (Ok event) = subst (λ x. AnswersClosed x q (Ok event)) is h in (
            record {
              event_is = k.0.event_is;
              machine_is = sym (settles_there b told_b q t worker sessions M stands closed refl) ∙ ap (settled M worker) k.0.place_is;
              unlimited = k.2;
              asks = asks (place_of M worker) worker op (subst TellsCall k.0.event_is call);
            },
            k.1,
          )
      answered (Err stop) p q stands is closed call h =
          let k : AnswersClosed (place_of M worker) q (Err stop) = subst (λ x. AnswersClosed x q (Err stop)) is h in
          record { cause = k.cause; may = ap (λ (x : Session). may_stop_at x.phase) here ∙ k.may }

      pub sole_turn : (result : Result CodeEvent Stop) → HasTurned op a b s t result → IfOk result (λ event. TellsCall (event_of event)) → TurnAnswers op M (machine_of b (put sessions worker t.at)) worker result
      sole_turn result h call =
          let k : AnswersClosed h.p h.q result = closed_answers result h.p h.q h.lost (none_lost h.lost h.found) h.answers in
          answered result h.p h.q h.stands (stands_there a told_a h.p s worker sessions h.stood may.closed here) (closed_after result h.p h.q k) call k

    pub may_turn_on : (result : Result CodeEvent Stop) → HasTurned op a b s t result → IsFit op b t → MayTurn op b worker t
    may_turn_on result h fit = record {
      worker_is = h.same_worker ∙ may.worker_is;
      closed = closed_after result h.p h.q (closed_answers result h.p h.q h.lost (none_lost h.lost h.found) h.answers);
      fit = fit;
    }

  -- ---- the other sessions

  none_held : (op : Operator) (a : RoomsView (Value T S)) (s : SessionView) (opened : Option OpenCommit) → opened ≡ None → IsFitIn op a s opened → (room : ℕ) → is_room_held a room ≡ false
  none_held op a s None n h = h.0
  none_held op a s (Some made) n h = absurd (cc)

  pub free_of : (op : Operator) (a : RoomsView (Value T S)) (worker : ℕ) (s : SessionView) → MayTurn op a worker s → (room : ℕ) → is_room_held a room ≡ false
  free_of op a worker s h = none_held op a s s.opened h.closed h.fit.doing

  doing_by : (op : Operator) (a b : RoomsView (Value T S)) (s : SessionView) (opened : Option OpenCommit) → opened ≡ None → ((room : ℕ) → is_room_held b room ≡ false) → IsFitIn op a s opened → IsFitIn op b s opened
  doing_by op a b s None n free h = (free, h.1)
  doing_by op a b s (Some made) n free h = absurd (cc)

  pub other_may : (op : Operator) (a b : RoomsView (Value T S)) (worker other : ℕ) (t u : SessionView) → AreSameRooms a b worker → MayTurn op b worker t → (other == worker) ≡ false → MayTurn op a other u → MayTurn op b other u
  other_may op a b worker other t u same mine ne h =
      let is : (u.worker == worker) ≡ false = subst (λ k. (k == worker) ≡ false) (sym h.worker_is) ne in
      record {
        worker_is = h.worker_is;
        closed = h.closed;
        fit = record {
          acts = ap (λ (f : ℕ → Bool). f u.worker) same.acts_for ∙ h.fit.acts;
          book = same.book ∙ h.fit.book;
          ordered = same.ordered ∙ h.fit.ordered;
          ordered_told = mine.fit.ordered_told;
          live = λ room below. let l : room < a.book = subst (λ k. room < k) same.book below in other_log u.worker room u.at.iter u.at.item u.at.outcome.steps (a.live room) (b.live room) (same.live room l u.worker is) (h.fit.live room l);
          live_told = λ room below. let l : room < a.book = subst (λ k. room < k) same.book below in
              other_told (a.told room) (b.told room) u.worker room u.at.iter u.at.item u.at.outcome.steps worker is (same.telling room (omega arith)) (same.live_told room l) (h.fit.live_told room l);
          within = h.fit.within;
          doing = doing_by op a b u u.opened h.closed (free_of op b worker t mine) h.fit.doing;
        };
      }
