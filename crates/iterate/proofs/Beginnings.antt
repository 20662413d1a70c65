-- Values that are new for an operator: their machine is a new one, and sessions may take their first turns.
use Rattle.std.specs.Prelude.{◌≡◌, ◌⊎◌, ℕ, ◌<◌, ◌≤◌, Bool, true, false, not, ◌&&◌, ◌==◌, Option, Some, None, List, [], ◌∷◌, ◌++◌, zero, suc, length, is_some, slice_get, refl}
use Rattle.std.proofs.Common.{sym, ◌∙◌, ap, subst, inl, inr, arith}
use Rattle.std.proofs.lemmas.Bool.{cases_lt}
use Rattle.std.proofs.lemmas.Option.{same_Some}
use Rattle.std.specs.FinMap as map
use Rattle.std.specs.Ordering.{is_lt, ordering_reverse}
use Rattle.std.specs.declared.cmp.Ordering.{Ordering}
use Rattle.std.specs.declared.cmp.Ordering.TheVariants.{Less, Equal, Greater}
use Rattle.gx_base.specs.declared.acts.Entry.{Entry}
use Rattle.gx_base.specs.declared.items.Item.{Item}
use Rattle.gx_base.specs.declared.kinds.Kind.TheVariants.{Set}
use Rattle.gx_base.specs.Kinds.{kind_number}
use Rattle.gx_base.specs.Plans.{Operator}
use Rattle.gx_base.specs.RoomViews.{is_book}
use Rattle.gx_base.specs.SetKind.{IsMark}
use Rattle.gx_base.specs.ShippedTables.{false_rows}
use Rattle.gx_base.specs.States.{row_cmp}
use Rattle.gx_base.specs.TableRows.{row_of}
use Rattle.gx_base.specs.Tables.{IsValid, KeepsToKind}
use Rattle.gx_base.specs.Worklists.{item_cmp, is_before, is_least}
use Rattle.gx_base.proofs.CallerLemmas.{row_of-empty}
use Rattle.commit_book.specs.BookViews.{BookView}
use Rattle.commit_book.specs.LawfulBooks.{AreAfter, AreRising, IsLawfulBook}
use Rattle.commit_book.proofs.ready.ReadySets.{item_cmp_total}
use Rattle.speculation.specs.Machines.{Machine}
use Rattle.speculation.specs.Events.{Turn}
use Rattle.speculation.specs.Premises.{IsNewGate, IsInOrder, IsNew, AsksCalls}
use Rattle.speculation.specs.RunResults.{IsSerialInTheEnd}
use Rattle.speculation.specs.ScheduledRuns.{is_empty, Run, played}
use Rattle.speculation.specs.Sessions.{Session}
use Rattle.speculation.proofs.Putting.{no_bool, same_number, numbers_equal}
use Rattle.rooms.specs.RoomsViews.{RoomsView, is_room_held, entries_for}
use Rattle.rooms.specs.Values.{tells}
use Rattle.rooms.specs.Visits.{AreTold, everyone}
use Rattle.rooms.specs.declared.values.Value.{Value}
use Rattle.rooms.specs.declared.values.Value.TheVariants.{Object, Book}
use Rattle.sessions.specs.Places.{no_gate, gate_of, book_of, IfTold, IsLogOf}
use Rattle.sessions.specs.declared.session.Session.{Session as CodeSession}
use Rattle.iterate.specs.PlayedTurns.{machine_of, session_in, sessions_of, IsLawfulValue, MayTurn, MayAllTurn, AreBegun, IsPlayedRun}
use Rattle.iterate.specs.Plays.{gate_in, book_in, begun_machine, IsNewGateIn, AreNewFor, IsPlayed}
use Rattle.sessions.specs.SessionViews.{Rests, SessionView, view_of, begun_view}

-- ---- a ready set by rising item is in order

less_turned : (r : Ordering) → is_lt r ≡ true → is_lt (ordering_reverse r) ≡ false
less_turned Less e = refl
less_turned Equal e = absurd (cc)
less_turned Greater e = absurd (cc)

not_before : (x y : Item) → is_before x y ≡ true → is_before y x ≡ false
not_before x y e = ap is_lt (item_cmp_total.antisymm y x) ∙ less_turned (item_cmp x y) e

least_by : (a b : Bool) → a ≡ false → b ≡ true → (not a && b) ≡ true
least_by a b e f = λ i. not (e i) && f i

least_of_after : (x : Item) (ys : List Item) → AreAfter x ys → is_least ys x ≡ true
unfolding is_least
least_of_after x [] h = refl
least_of_after x (y ∷ ys) h = least_by (is_before y x) (is_least ys x) (not_before x y h.0) (least_of_after x ys h.1)

in_order : (ready : List Item) → AreRising ready → IsInOrder ready
in_order [] h = tt
in_order (x ∷ xs) h = (least_of_after x xs h.0, in_order xs h.1)

-- ---- where there is no gate

no_rows : row_of map.empty ≡ false_rows
no_rows = λ i first second. row_of-empty first second i

none_valid : IsValid (kind_number Set) false_rows
none_valid = record {
  swaps = λ s a b e h fa fb t. absurd (cc);
  sees_first = λ s a b e h fa fb t l. absurd (cc);
  sees_second = λ s a b e h fa fb t l. absurd (cc);
}

pub no_gate_is_new : IsNewGate no_gate
no_gate_is_new = record {
  lawful = record {
    valid = subst (IsValid (kind_number Set)) (sym no_rows) none_valid;
    keeps_to_kind = subst (KeepsToKind (kind_number Set)) (sym no_rows) (λ first second f. refl);
    stands = record { of_kind = refl; is_state = λ key. subst IsMark (sym (map.get-empty row_cmp key)) tt };
    done_calls = tt;
    live_calls = tt;
    done_legal = refl;
    live_legal = refl;
    pairs = tt;
    saw = tt;
    numbers = tt;
    mark = refl;
    uncommitted = tt;
  };
  no_done = refl;
  no_live = refl;
}

module _ {T S : Type 0} (op : Operator) (values : ℕ → Option (Value T S)) (new : AreNewFor op values) (lawful : (room : ℕ) (value : Value T S) → values room ≡ Some value → IsLawfulValue value) where
  gate_by : (o : Option (Value T S)) → IsNewGateIn o → ((value : Value T S) → o ≡ Some value → IsLawfulValue value) → IsNewGate (gate_in o)
  gate_by o h l = subst (λ (x : Option (Value T S)). IsNewGate (gate_in x)) (sym h.is_there) (record { lawful = l (Object h.gate) h.is_there; no_done = h.no_done; no_live = h.no_live })

  gates_by : (room : ℕ) → (room < op.rooms) ⊎ (op.rooms ≤ room) → IsNewGate (gate_in (values room))
  gates_by room (inl below) = gate_by (values room) (new.gates room below) (lawful room)
  gates_by room (inr above) = past (cases_lt op.rooms room)
    where
      past : (op.rooms < room) ⊎ (room ≤ op.rooms) → IsNewGate (gate_in (values room))
      past (inl more) = subst (λ (x : Option (Value T S)). IsNewGate (gate_in x)) (sym (new.no_more room more)) no_gate_is_new
      past (inr upto) = let same : room ≡ op.rooms = omega arith in subst (λ k. IsNewGate (gate_in (values k))) (sym same) (subst (λ (x : Option (Value T S)). IsNewGate (gate_in x)) (sym new.book.is_there) no_gate_is_new)

  book : book_in (values op.rooms) ≡ new.book.book
  book = ap book_in new.book.is_there

  rising : IsLawfulBook new.book.book
  rising = lawful op.rooms (Book new.book.book) new.book.is_there

  -- the machine of the values is a new one
  pub begins : IsNew op (begun_machine op.rooms values)
  begins = record {
    gates = λ room. gates_by room (cases_lt room op.rooms);
    ordered = ap (λ (b : BookView). b.ordered) book ∙ new.book.ordered;
    in_order = subst (λ (b : BookView). IsInOrder b.ready) (sym book) (in_order new.book.book.ready rising.rising);
    no_holds = ap (λ (b : BookView). b.holds) book ∙ new.book.no_holds;
    no_commits = ap (λ (b : BookView). b.commits) book ∙ new.book.no_commits;
    idle = λ worker. refl;
    nothing_done = λ worker. refl;
  }

module _ {T S : Type 0} (op : Operator) (a : RoomsView (Value T S)) (told : AreTold tells a) (new : AreNewFor op a.told) where
  not_more : a.book < op.rooms → ⊥
  not_more h = absurd (no_bool true refl (ap is_some (sym new.book.is_there ∙ told.no_more op.rooms h)))

  not_fewer : op.rooms < a.book → ⊥
  not_fewer h = absurd (no_bool (is_some (a.told a.book)) (told.there a.book (omega arith)) (ap is_some (new.no_more a.book h)))

  pub book_last : a.book ≡ op.rooms
  book_last = by_order (cases_lt a.book op.rooms) (cases_lt op.rooms a.book)
    where
      by_order : (a.book < op.rooms) ⊎ (op.rooms ≤ a.book) → (op.rooms < a.book) ⊎ (a.book ≤ op.rooms) → a.book ≡ op.rooms
      by_order (inl less) k = absurd (not_more less)
      by_order (inr h) (inl more) = absurd (not_fewer more)
      by_order (inr h) (inr k) = omega arith

  told_ordered : new.book.book.ordered ≡ a.ordered
  told_ordered = (told.suits op.rooms (Book new.book.book) new.book.is_there).ordered_as refl

  none_live : (room : ℕ) (h : IsNewGateIn (a.told room)) → a.live room ≡ []
  none_live room h = sym (told.live room (Object h.gate) h.is_there) ∙ ap (entries_for a.acts_for) h.no_live

  no_log : (room worker : ℕ) (es : List Entry) → es ≡ [] → IsLogOf room (begun_view worker) es
  no_log room worker es e = subst (IsLogOf room (begun_view worker)) (sym e) (record { current = tt; entries = refl })

  told_log : (room worker : ℕ) (o : Option (Value T S)) → IsNewGateIn o → IfTold o (λ value. IsLogOf room (begun_view worker) (gate_of value).live)
  told_log room worker o h = subst (λ (x : Option (Value T S)). IfTold x (λ value. IsLogOf room (begun_view worker) (gate_of value).live)) (sym h.is_there) (no_log room worker h.gate.live h.no_live)

  pub may_begin : a.acts_for ≡ everyone → ((room : ℕ) → is_room_held a room ≡ false) → (worker : ℕ) → MayTurn op a worker (begun_view worker)
  may_begin acts free worker = record {
    worker_is = refl;
    closed = refl;
    fit = record {
      acts = ap (λ (f : ℕ → Bool). f worker) acts;
      book = book_last;
      ordered = sym told_ordered ∙ new.book.ordered;
      ordered_told = subst (λ k. IfTold (a.told k) (λ value. (book_of value).ordered ≡ a.ordered)) (sym book_last) (subst (λ (x : Option (Value T S)). IfTold x (λ value. (book_of value).ordered ≡ a.ordered)) (sym new.book.is_there) told_ordered);
      live = λ room below. no_log room worker (a.live room) (none_live room (new.gates room (subst (λ k. room < k) book_last below)));
      live_told = λ room below. told_log room worker (a.told room) (new.gates room (subst (λ k. room < k) book_last below));
      within = tt;
      doing = (free, refl);
    };
  }

-- ---- values at the end

module _ {T S : Type 0} (a : RoomsView (Value T S)) (told : AreTold tells a) where
  object_by : (room : ℕ) (o : Option (Value T S)) → is_some o ≡ true → ((value : Value T S) → o ≡ Some value → is_book (tells value).origin ≡ false) → o ≡ Some (Object (gate_in o))
  object_by room None t h = absurd (cc)
  object_by room (Some (Object gate)) t h = refl
  object_by room (Some (Book book)) t h = absurd (no_bool true refl (h (Book book) refl))

  apart_by : (n k : ℕ) (b : Bool) → (n == k) ≡ b → (n ≡ k → ⊥) → b ≡ false
  apart_by n k true e h = absurd (h (numbers_equal n k e))
  apart_by n k false e h = refl

  pub object_there : (room : ℕ) → room < a.book → a.told room ≡ Some (Object (gate_in (a.told room)))
  object_there room below =
      object_by room (a.told room) (told.there room (omega arith))
      (λ value e. (told.suits room value e).book_where ∙ apart_by room a.book (room == a.book) refl (λ k. omega arith))

  book_by : (o : Option (Value T S)) → is_some o ≡ true → ((value : Value T S) → o ≡ Some value → is_book (tells value).origin ≡ true) → o ≡ Some (Book (book_in o))
  book_by None t h = absurd (cc)
  book_by (Some (Object gate)) t h = absurd (no_bool false (h (Object gate) refl) refl)
  book_by (Some (Book book)) t h = refl

  pub book_there : a.told a.book ≡ Some (Book (book_in (a.told a.book)))
  book_there = book_by (a.told a.book) (told.there a.book (omega arith)) (λ value e. (told.suits a.book value e).book_where ∙ same_number a.book)

  pub no_gate_past : (room : ℕ) → a.book ≤ room → gate_in (a.told room) ≡ no_gate
  no_gate_past room above = past (cases_lt a.book room)
    where
      past : (a.book < room) ⊎ (room ≤ a.book) → gate_in (a.told room) ≡ no_gate
      past (inl more) = ap gate_in (told.no_more room more)
      past (inr upto) = let same : room ≡ a.book = omega arith in ap (λ k. gate_in (a.told k)) same ∙ ap gate_in book_there

-- ---- sessions before their first turns

pub place_by : {X : Type 0} (xs : List X) (x : X) (place : ℕ) (y : X) → slice_get (xs ++ x ∷ []) place ≡ Some y → (slice_get xs place ≡ Some y) ⊎ ((place ≡ length xs) × (y ≡ x))
place_by [] x zero y e = inr (refl, sym (same_Some x y e))
place_by [] x (suc place) y e = absurd (cc)
place_by (z ∷ zs) x zero y e = inl e
place_by (z ∷ zs) x (suc place) y e = later (place_by zs x place y e)
  where
    later : (slice_get zs place ≡ Some y) ⊎ ((place ≡ length zs) × (y ≡ x)) → (slice_get zs place ≡ Some y) ⊎ ((suc place ≡ suc (length zs)) × (y ≡ x))
    later (inl h) = inl h
    later (inr (h, k)) = inr (ap suc h, k)

module _ {O St : Type 0} (rest : Rests St) where
  begun_by : (worker : ℕ) (o : Option (CodeSession O St)) → ((s : CodeSession O St) → o ≡ Some s → view_of rest s ≡ begun_view worker) → session_in rest o ≡ (begun_view worker).at
  begun_by worker None h = refl
  begun_by worker (Some s) h = ap (λ (v : SessionView). v.at) (h s refl)

  pub begun_sessions : (xs : List (CodeSession O St)) → AreBegun rest xs → (worker : ℕ) → sessions_of rest xs worker ≡ (begun_view worker).at
  begun_sessions xs h worker = begun_by worker (slice_get xs worker) (h worker)

  module _ {T S : Type 0} (op : Operator) (a : RoomsView (Value T S)) (told : AreTold tells a) (new : AreNewFor op a.told) where
    pub begun_is : (xs : List (CodeSession O St)) → AreBegun rest xs → machine_of a (sessions_of rest xs) ≡ begun_machine op.rooms a.told
    begun_is xs h = λ i. record { gates = λ room. gate_in (a.told room); book = book_in (a.told (book_last op a told new i)); sessions = λ worker. begun_sessions xs h worker i }

    pub all_begin : (xs : List (CodeSession O St)) → AreBegun rest xs → a.acts_for ≡ everyone → ((room : ℕ) → is_room_held a room ≡ false) → MayAllTurn op a rest xs
    all_begin xs h acts free = λ worker s e. subst (MayTurn op a worker) (sym (h worker s e)) (may_begin op a told new acts free worker)

  pub one_more_begun : (xs : List (CodeSession O St)) (x : CodeSession O St) → AreBegun rest xs → view_of rest x ≡ begun_view (length xs) → AreBegun rest (xs ++ x ∷ [])
  one_more_begun xs x h k = λ worker s e. by_place worker s (place_by xs x worker s e)
    where
      by_place : (worker : ℕ) (s : CodeSession O St) → (slice_get xs worker ≡ Some s) ⊎ ((worker ≡ length xs) × (s ≡ x)) → view_of rest s ≡ begun_view worker
      by_place worker s (inl there) = h worker s there
      by_place worker s (inr (last, same)) = ap (view_of rest) same ∙ k ∙ ap begun_view (sym last)

-- ---- a whole run

module _ {T S : Type 0} (op : Operator) (first : Machine) (workers : ℕ) (schedule : List ℕ) (b : RoomsView (Value T S)) (told : AreTold tells b) (last : b.book ≡ op.rooms) where
  abbrev After : ℕ → Machine
  After turns = (played op first workers schedule turns).machine

  pub is_played : (sessions : ℕ → Session) (trace : List Turn) (values : ℕ → Option (Value T S)) → IsPlayedRun op first workers schedule (record { machine = machine_of b sessions; trace = trace })
      → ((room : ℕ) → values room ≡ b.told room) → ((turns : ℕ) → AsksCalls op first workers schedule turns → IsSerialInTheEnd op first (After turns)) → IsPlayed op first workers schedule trace values
  is_played sessions trace values h same serial =
      let machine : machine_of b sessions ≡ After h.turns = ap (λ (r : Run). r.machine) h.run_is in
      record {
        turns = h.turns;
        unlimited = h.unlimited;
        ends = subst (λ (m : Machine). is_empty m.book.ready ≡ true) machine h.ends;
        trace_is = ap (λ (r : Run). r.trace) h.run_is;
        gates = λ room below. same room ∙ object_there b told room (subst (λ k. room < k) (sym last) below) ∙ ap (λ (m : Machine). Some (Object (m.gates room))) machine;
        book = same op.rooms ∙ subst (λ k. b.told k ≡ Some (Book (book_in (b.told b.book)))) last (book_there b told) ∙ ap (λ (m : Machine). Some (Book m.book)) machine;
        no_more = λ room above. same room ∙ told.no_more room (subst (λ k. k < room) (sym last) above);
        no_others = λ room above. ap (λ (m : Machine). m.gates room) (sym machine) ∙ no_gate_past b told room (subst (λ k. k ≤ room) (sym last) above);
        serial = serial h.turns h.asks;
      }
