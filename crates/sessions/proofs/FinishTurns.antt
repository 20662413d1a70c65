-- The turns of a finished session.
use Rattle.std.specs.Prelude.{◌≡◌, ◌⊎◌, ℕ, Bool, true, false, not, ◌||◌, ◌==◌, if◌then◌else◌, Option, Some, None, List, [], length, Result, Ok, Err, refl, ⊤}
use Rattle.std.proofs.Common.{sym, ◌∙◌, ap, subst, inl, inr}
use Rattle.gx_base.specs.declared.items.Item.{Item}
use Rattle.gx_base.specs.Plans.{Operator}
use Rattle.gx_base.specs.Worklists.{has_item, is_least}
use Rattle.gate_core.specs.Views.{GateView}
use Rattle.commit_book.specs.declared.refusals.CommitRefuse.{CommitRefuse}
use Rattle.commit_book.specs.declared.refusals.CommitRefuse.TheVariants.{NotReady, NotLeast, Spent, Kept, NoMemory}
use Rattle.commit_book.specs.BookViews.{BookView, put_back, is_named, is_spent, is_past_journal}
use Rattle.commit_book.specs.LawfulBooks.{or_else, only_if, not_least, least_before, refusal}
use Rattle.speculation.specs.Events as event
use Rattle.speculation.specs.Limits.{Limit, limit_at}
use Rattle.speculation.specs.Limits as limit
use Rattle.speculation.specs.Machines.{Place, Turned, let_go, given_up, committed, undo, turn_at}
use Rattle.speculation.specs.Sessions.{Finished, undoing, undone_to, has_no_step}
use Rattle.speculation.proofs.Putting.{no_bool, same_number}
use Rattle.speculation.proofs.Steps.{is_none}
use Rattle.rooms.specs.RoomsViews.{RoomsView, visited, entered, left as rooms_left}
use Rattle.rooms.specs.HandedOut.{IsHandedOut, IsLost}
use Rattle.rooms.specs.Values.{tells}
use Rattle.rooms.specs.declared.values.Value.{Value}
use Rattle.rooms.specs.declared.values.Value.TheVariants.{Book}
use Rattle.sessions.specs.declared.events.Event.{Event as CodeEvent}
use Rattle.sessions.specs.declared.events.Event.TheVariants as events
use Rattle.sessions.specs.declared.events.Stop.{Stop}
use Rattle.sessions.specs.declared.events.Stop.TheVariants as stops
use Rattle.sessions.specs.declared.session.Phase.{Phase as CodePhase}
use Rattle.sessions.specs.declared.session.Phase.TheVariants as code
use Rattle.sessions.specs.Places.{IsLogIn, IsFit}
use Rattle.sessions.specs.RoomLists.{is_room_among, rooms_of}
use Rattle.sessions.specs.SessionViews.{Rests, Core, SessionView, view_in}
use Rattle.sessions.specs.SharedTurns.{Shared, cut_at, cut_commit, begun_commit, stays}
use Rattle.sessions.specs.TurnMoves.{at_book, enters_book, releases, in_book}
use Rattle.sessions.specs.Visits.{answer_to, gives_up, pushes_kept}
use Rattle.sessions.specs.Turns.{TakesTurn, Answers, HasMoved, IsAfter, IsCause, MayLose, limit_on}
use Rattle.sessions.proofs.Standing.{base_place}
use Rattle.sessions.proofs.Turning.{whole, lost_moves}
use Rattle.sessions.proofs.BookTurns.{body_of, book_place, book_turn, book_visited, book_visit_moves, lost_turn}
use Rattle.sessions.proofs.UndoTurns.{over, or_left, unless_true, where_true}

-- ---- why a book refuses

-- in a book that isn't ordered
abbrev unordered_refusal : Bool → Bool → Bool → Option CommitRefuse
unordered_refusal ready spent past = or_else (only_if (not ready) NotReady) (or_else (only_if spent Spent) (only_if past Kept))

refuses : (b : BookView) (item : Item) (steps : ℕ) → b.ordered ≡ false → refusal b item steps ≡ unordered_refusal (has_item b.ready item) (is_spent b) (is_past_journal b steps)
refuses b item steps e =
    ap (λ (o : Bool). or_else (only_if (not (has_item b.ready item)) NotReady) (or_else (if o then not_least (least_before b.ready item) else None) (or_else (only_if (is_spent b) Spent) (only_if (is_past_journal b steps) Kept)))) e

-- what is so where a book answers so
abbrev pub Because : CommitRefuse → Bool → Bool → Bool → Type 0
Because NotReady ready spent past = ready ≡ false
Because (NotLeast least) ready spent past = ⊥
Because Spent ready spent past = (ready ≡ true) × (spent ≡ true)
Because Kept ready spent past = (ready ≡ true) × (spent ≡ false) × (past ≡ true)
Because NoMemory ready spent past = ⊤

because : (refuse : CommitRefuse) (ready spent past : Bool) → (unordered_refusal ready spent past ≡ Some refuse) ⊎ (refuse ≡ NoMemory) → Because refuse ready spent past
because NotReady false spent past h = refl
because NotReady true true past (inl e) = absurd (cc)
because NotReady true false true (inl e) = absurd (cc)
because NotReady true false false (inl e) = absurd (cc)
because NotReady true spent past (inr e) = absurd (cc)
because (NotLeast least) false spent past (inl e) = absurd (cc)
because (NotLeast least) true true past (inl e) = absurd (cc)
because (NotLeast least) true false true (inl e) = absurd (cc)
because (NotLeast least) true false false (inl e) = absurd (cc)
because (NotLeast least) ready spent past (inr e) = absurd (cc)
because Spent false spent past (inl e) = absurd (cc)
because Spent true true past (inl e) = (refl, refl)
because Spent true false true (inl e) = absurd (cc)
because Spent true false false (inl e) = absurd (cc)
because Spent ready spent past (inr e) = absurd (cc)
because Kept false spent past (inl e) = absurd (cc)
because Kept true true past (inl e) = absurd (cc)
because Kept true false true (inl e) = (refl, refl, refl)
because Kept true false false (inl e) = absurd (cc)
because Kept ready spent past (inr e) = absurd (cc)
because NoMemory ready spent past h = tt

pub cause_of : (b : BookView) (item : Item) (steps : ℕ) (refuse : CommitRefuse) → b.ordered ≡ false → (refusal b item steps ≡ Some refuse) ⊎ (refuse ≡ NoMemory) → Because refuse (has_item b.ready item) (is_spent b) (is_past_journal b steps)
cause_of b item steps refuse o (inl e) = because refuse (has_item b.ready item) (is_spent b) (is_past_journal b steps) (inl (sym (refuses b item steps o) ∙ e))
cause_of b item steps refuse o (inr e) = because refuse (has_item b.ready item) (is_spent b) (is_past_journal b steps) (inr e)

-- nothing is in the way of a commit
pub record MayCommit (ready spent past : Bool) : Type 0 where
  pub is_ready : ready ≡ true
  pub not_spent : spent ≡ false
  pub not_past : past ≡ false

free_by : (ready spent past : Bool) → unordered_refusal ready spent past ≡ None → MayCommit ready spent past
free_by false spent past e = absurd (cc)
free_by true true past e = absurd (cc)
free_by true false true e = absurd (cc)
free_by true false false e = record { is_ready = refl; not_spent = refl; not_past = refl }

pub free_of : (b : BookView) (item : Item) (steps : ℕ) → b.ordered ≡ false → refusal b item steps ≡ None → MayCommit (has_item b.ready item) (is_spent b) (is_past_journal b steps)
free_of b item steps o e = free_by (has_item b.ready item) (is_spent b) (is_past_journal b steps) (sym (refuses b item steps o) ∙ e)

module _ {T S St : Type 0} (op : Operator) (a b : RoomsView (Value T S)) (rest : Rests St) (c : Core) where
  abbrev finished : SessionView
  finished = view_in rest c code.Finished

  abbrev at : (ℕ → GateView) → BookView → Place
  at gates bk = record { gates = gates; book = bk; session = finished.at }

  -- what the machine does in a loop that isn't ordered, where the iteration isn't named
  abbrev unnamed : Place → Bool → Turned
  unnamed p ready = if ready then record { event = event.Commit (length p.book.commits); place = committed p c.worker finished.at } else record { event = event.Drop; place = given_up p c.worker finished.at }

  abbrev finish_by : Place → Bool → Bool → Bool → Turned
  finish_by p named ready ordered =
      if named then undo p c.worker finished.at
      else (if ready then (if not ordered || is_least p.book.ready c.item then record { event = event.Commit (length p.book.commits); place = committed p c.worker finished.at } else record { event = event.Wait; place = p })
      else record { event = event.Drop; place = given_up p c.worker finished.at })

  pub finishes : (gates : ℕ → GateView) (bk : BookView) (ready : Bool) → is_named bk c.worker c.iter ≡ false → bk.ordered ≡ false → has_item bk.ready c.item ≡ ready → turn_at op (at gates bk) c.worker ≡ unnamed (at gates bk) ready
  unfolding turn_at
  finishes gates bk ready n o r = λ i. finish_by (at gates bk) (n i) (r i) (o i)

  pub finish_lost : IsFit op a finished → IsLost a b a.book → TakesTurn op a b finished finished (Ok events.Busy)
  finish_lost fit loss =
      let p : Place = base_place a finished in
      let shared : cut_at op a.book p c.worker finished.at c.pushed Finished a.book ≡ stays p finished.at c.pushed =
      ap (λ (k : Bool). if k then stays p finished.at c.pushed else (if is_named p.book c.worker c.iter then stays p (undoing finished.at) c.pushed else cut_commit p c.worker finished.at c.pushed (begun_commit p c.worker finished.at) a.book)) (same_number a.book) in
      lost_turn op a b finished finished a.book loss fit refl refl refl (or_left (a.book == a.book) (is_room_among (rooms_of c.log) a.book) (same_number a.book)) (λ other es h. h) fit.within (body_of op a finished fit refl) (Ok events.Busy) (
        subst (λ (x : Shared). IsAfter x event.Busy finished p) (sym shared) (record { event_is = refl; place_is = refl; opened_is = refl; pushed_is = refl }),
        tt,
        (λ e. absurd (no_bool (a.book == a.book) (same_number a.book) e)),
      )
      (lost_moves a b a.book loss ∙ sym (ap (λ (k : Bool). if k then a.moves else (if is_named p.book c.worker c.iter then at_book a.book p.gates p.gates p.book p.book a.moves else releases a.book p.gates p.gates p.book p.book (rooms_of c.log) (Some a.book) (enters_book a.book p.gates p.gates p.book p.book a.moves))) (same_number a.book)))

  -- ---- the iteration gives up

  module _ (x : RoomsView (Value T S)) (fit : IsFit op a finished) (was book_now : BookView) (new : Core) (phase : CodePhase St) (pushes : List Item) (handed : IsHandedOut tells a a.book (Book was))
      (enters : x ≡ entered tells a a.book (Book was)) (leaves : b ≡ rooms_left tells x x.book (Book book_now))
      (calls : has_no_step c.log ≡ false → (book_now ≡ was) × (new ≡ record c { pushes = pushes }) × (phase ≡ code.Undoing))
      (overs : has_no_step c.log ≡ true → (book_now ≡ put_back was c.worker c.iter) × (new ≡ over c) × (phase ≡ code.Idle)) where
    abbrev p : Place
    p = book_place a finished was

    abbrev undoing_view : SessionView
    undoing_view = view_in rest (record c { pushes = pushes }) code.Undoing

    abbrev over_view : SessionView
    over_view = view_in rest (over c) code.Idle

    abbrev q_calls : Place
    q_calls = record { gates = p.gates; book = was; session = undoing_view.at }

    abbrev q_over : Place
    q_over = record { gates = p.gates; book = put_back was c.worker c.iter; session = over_view.at }

    -- the moves of a visit of the book are those of the answer
    abbrev VisitMoves : Result CodeEvent Stop → Type 0
    VisitMoves r = (now : BookView) (t : SessionView) → b.moves ≡ visited a.book (Book was) (Book now) a.moves → HasMoved a.book finished p (record { gates = p.gates; book = now; session = t.at }) None r a.moves b.moves

    give_by : (r : Result CodeEvent Stop) → (has_no_step c.log ≡ false → Answers op a.book finished undoing_view p q_calls None r) → (has_no_step c.log ≡ true → Answers op a.book finished over_view p q_over None r)
        → VisitMoves r → (k : Bool) → has_no_step c.log ≡ k → TakesTurn op a b finished (view_in rest new phase) r
    give_by r ans_calls ans_over moved false e =
        let h : (book_now ≡ was) × (new ≡ record c { pushes = pushes }) × (phase ≡ code.Undoing) = calls e in
        subst (λ (f : CodePhase St). TakesTurn op a b finished (view_in rest new f) r) (sym h.2)
        (subst (λ (k : Core). TakesTurn op a b finished (view_in rest k code.Undoing) r) (sym h.1)
        (book_turn op a b finished undoing_view was was (book_visited a x b was book_now was handed enters leaves h.0) fit refl refl refl refl (λ room es k. k) fit.within tt r (ans_calls e)
        (moved was undoing_view (book_visit_moves a b was was (book_visited a x b was book_now was handed enters leaves h.0)))))
    give_by r ans_calls ans_over moved true e =
        let h : (book_now ≡ put_back was c.worker c.iter) × (new ≡ over c) × (phase ≡ code.Idle) = overs e in
        subst (λ (f : CodePhase St). TakesTurn op a b finished (view_in rest new f) r) (sym h.2)
        (subst (λ (k : Core). TakesTurn op a b finished (view_in rest k code.Idle) r) (sym h.1)
        (book_turn op a b finished over_view was (put_back was c.worker c.iter) (book_visited a x b was book_now (put_back was c.worker c.iter) handed enters leaves h.0) fit refl refl refl refl
        (λ room es k. subst (λ steps. IsLogIn room c.worker c.iter c.item steps es) (is_none c.log e) k) tt refl r (ans_over e)
        (moved (put_back was c.worker c.iter) over_view (book_visit_moves a b was (put_back was c.worker c.iter) (book_visited a x b was book_now (put_back was c.worker c.iter) handed enters leaves h.0)))))

    give_turn : (r : Result CodeEvent Stop) → (has_no_step c.log ≡ false → Answers op a.book finished undoing_view p q_calls None r) → (has_no_step c.log ≡ true → Answers op a.book finished over_view p q_over None r)
        → VisitMoves r → TakesTurn op a b finished (view_in rest new phase) r
    give_turn r ans_calls ans_over moved = give_by r ans_calls ans_over moved (has_no_step c.log) refl

    drop_turn : pushes ≡ c.pushes → is_named was c.worker c.iter ≡ false → was.ordered ≡ false → has_item was.ready c.item ≡ false → TakesTurn op a b finished (view_in rest new phase) (Ok events.Drop)
    drop_turn same n o r =
        let u : Turned = record { event = event.Drop; place = given_up p c.worker finished.at } in
        let turns : turn_at op p c.worker ≡ u = finishes p.gates was false n o r in
        give_turn (Ok events.Drop)
        (λ e. whole op a b finished undoing_view p q_calls u events.Drop turns refl refl
        ((λ i. record { gates = p.gates; book = was; session = record undoing_view.at { outcome = record { steps = c.log; pushes = same i; withdrawn = [] } } })
        ∙ sym (unless_true (has_no_step c.log) (let_go p c.worker finished.at) (record { gates = p.gates; book = was; session = undoing finished.at }) e)) refl refl refl tt)
        (λ e. whole op a b finished over_view p q_over u events.Drop turns refl refl
        (sym (where_true (has_no_step c.log) (let_go p c.worker finished.at) (record { gates = p.gates; book = was; session = undoing finished.at }) e)) refl refl refl tt)
        (λ now t e. e)

    none_lost : (stop : Stop) (book : ℕ) → MayLose stop book None
    none_lost stops.Spent book = refl
    none_lost stops.Kept book = refl
    none_lost stops.NoMemory book = λ room e. absurd (cc)

    stop_moves : (stop : Stop) → VisitMoves (Err stop)
    stop_moves stops.Spent now t e = e
    stop_moves stops.Kept now t e = e
    stop_moves stops.NoMemory now t e = in_book refl refl e

    stop_turn : (stop : Stop) → pushes ≡ [] → IsCause stop (limit_on op p c.worker) → TakesTurn op a b finished (view_in rest new phase) (Err stop)
    stop_turn stop none cause = give_turn (Err stop)
        (λ e. record {
          may = refl;
          cause = cause;
          held = none_lost stop a.book;
          place_is = (λ i. record { gates = p.gates; book = was; session = record undoing_view.at { outcome = record { steps = c.log; pushes = none i; withdrawn = [] } } })
              ∙ sym (unless_true (has_no_step c.log) (let_go p c.worker finished.at) (record { gates = p.gates; book = was; session = undone_to finished.at c.log }) e);
          opened_is = refl;
          pushed_is = refl;
        })
        (λ e. record {
          may = refl;
          cause = cause;
          held = none_lost stop a.book;
          place_is = sym (where_true (has_no_step c.log) (let_go p c.worker finished.at) (record { gates = p.gates; book = was; session = undone_to finished.at c.log }) e);
          opened_is = refl;
          pushed_is = refl;
        })
        (stop_moves stop)

    -- the limit that the commit would pass
    passes : (spent past : Bool) → is_named was c.worker c.iter ≡ false → was.ordered ≡ false → has_item was.ready c.item ≡ true → is_spent was ≡ spent → is_past_journal was (length c.log) ≡ past
        → limit_on op p c.worker ≡ (if spent then Some limit.Spent else (if past then Some limit.Kept else None))
    passes spent past n o r s j =
        ap (λ (u : Turned). limit_at u.event was (length c.log)) (finishes p.gates was true n o r) ∙ (λ i. if s i then Some limit.Spent else (if j i then Some limit.Kept else None))

  -- a book refuses the commit
  pub refused_turn : (x : RoomsView (Value T S)) → IsFit op a finished → (was book_now : BookView) (new : Core) (phase : CodePhase St) (refuse : CommitRefuse) → IsHandedOut tells a a.book (Book was) → x ≡ entered tells a a.book (Book was)
      → b ≡ rooms_left tells x x.book (Book book_now) → is_named was c.worker c.iter ≡ false → was.ordered ≡ false → Because refuse (has_item was.ready c.item) (is_spent was) (is_past_journal was (length c.log))
      → (gives_up refuse ≡ true → has_no_step c.log ≡ false → (book_now ≡ was) × (new ≡ record c { pushes = pushes_kept refuse c.pushes }) × (phase ≡ code.Undoing))
      → (gives_up refuse ≡ true → has_no_step c.log ≡ true → (book_now ≡ put_back was c.worker c.iter) × (new ≡ over c) × (phase ≡ code.Idle)) → TakesTurn op a b finished (view_in rest new phase) (answer_to refuse)
  refused_turn x fit was book_now new phase NotReady handed enters leaves n o why calls overs = drop_turn x fit was book_now new phase c.pushes handed enters leaves (calls refl) (overs refl) refl n o why
  refused_turn x fit was book_now new phase (NotLeast least) handed enters leaves n o why calls overs = absurd why
  refused_turn x fit was book_now new phase Spent handed enters leaves n o why calls overs =
      stop_turn x fit was book_now new phase [] handed enters leaves (calls refl) (overs refl) stops.Spent refl
      (passes x fit was book_now new phase [] handed enters leaves (calls refl) (overs refl) true (is_past_journal was (length c.log)) n o why.0 why.1 refl)
  refused_turn x fit was book_now new phase Kept handed enters leaves n o why calls overs =
      stop_turn x fit was book_now new phase [] handed enters leaves (calls refl) (overs refl) stops.Kept refl
      (passes x fit was book_now new phase [] handed enters leaves (calls refl) (overs refl) false true n o why.0 why.1 why.2)
  refused_turn x fit was book_now new phase NoMemory handed enters leaves n o why calls overs = stop_turn x fit was book_now new phase [] handed enters leaves (calls refl) (overs refl) stops.NoMemory refl tt
