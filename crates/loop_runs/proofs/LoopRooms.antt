-- The rooms of a loop's run: the machine that they are before it, and the report of what they are after it.
use Rattle.std.proofs.Common.{◌≡◌, ◌⊎◌, inl, inr, ℕ, zero, suc, ◌+◌, ◌^◌, ◌<◌, ◌≤◌, Bool, true, false, if◌then◌else◌, nat_lt, Some, None, List, [], ◌∷◌, ◌++◌, length, map, slice_get, refl, sym, ap, subst, ◌∙◌, arith}
use Rattle.std.proofs.lemmas.Bool.{ltb-true, ltb-false, cases_lt}
use Rattle.std.proofs.lemmas.List.{get_or_past, append-nil, map-append}
use Rattle.gx_base.specs.declared.acts.Commit.{Commit}
use Rattle.gx_base.specs.declared.items.Item.{Item}
use Rattle.gx_base.specs.Outcomes.{WholeCommit, order_of, outcomes_of}
use Rattle.gx_base.specs.Plans.{Operator}
use Rattle.gx_base.specs.Replays.{in_rooms, no_state}
use Rattle.gx_base.specs.SerialRuns.{IsSerialRun, all_counted}
use Rattle.gx_base.specs.States.{State}
use Rattle.gx_base.specs.Worklists.{with_items}
use Rattle.gate_core.specs.Views.{GateView}
use Rattle.commit_book.specs.BookViews.{BookView, new_book}
use Rattle.commit_book.specs.Commits.{items_of}
use Rattle.speculation.specs.Events.{Turn}
use Rattle.speculation.specs.Machines.{Machine}
use Rattle.speculation.specs.RunResults.{object_states, end_in}
use Rattle.speculation.specs.ScheduledRuns.{is_empty, Run}
use Rattle.rooms.specs.Values.{tells}
use Rattle.rooms.specs.Visits.{AreGatesAndBook}
use Rattle.rooms.specs.declared.values.Value.{Value}
use Rattle.rooms.specs.declared.values.Value.TheVariants.{Object, Book}
use Rattle.sessions.specs.Places.{no_gate}
use Rattle.iterate.specs.Plays.{AreNewFor, begun_machine, gate_in, book_in}
use Rattle.sessions.specs.SessionViews.{begun_view}
use Rattle.traces.specs.Traces.{trace_text}
use Rattle.run_words.specs.declared.options.RunOptions.{RunOptions}
use Rattle.loop_runs.specs.GateTables.{GateTables}
use Rattle.loop_runs.specs.LoopRuns.{Loop, IsReportOf, loop_machine, new_gate, loop_run}
use Rattle.loop_runs.specs.LoopRooms.{AreValuesOf, gates_over, IsLoopPlayed, states_in, last_book}

module _ (T S : Type 0) (tables : GateTables) (book : BookView) where
  -- ---- the values at the start

  abbrev pub loop_values : List State → List (Value T S)
  loop_values states = gates_over tables states ++ Book book ∷ []

  pub gate_at : (states : List State) (room : ℕ) → room < length states → slice_get (loop_values states) room ≡ Some (Object (new_gate tables (in_rooms states room)))
  gate_at [] room l = absurd (omega arith)
  gate_at (s ∷ states) zero l = refl
  gate_at (s ∷ states) (suc room) l = gate_at states room (omega arith)

  pub book_at : (states : List State) → slice_get (loop_values states) (length states) ≡ Some (Book book)
  book_at [] = refl
  book_at (s ∷ states) = book_at states

  pub none_past : (states : List State) (room : ℕ) → length states < room → slice_get (loop_values states) room ≡ None
  none_past [] zero l = absurd (omega arith)
  none_past [] (suc room) l = refl
  none_past (s ∷ states) zero l = absurd (omega arith)
  none_past (s ∷ states) (suc room) l = none_past states room (omega arith)

  gate_past : (states : List State) (room : ℕ) → length states ≤ room → gate_in (slice_get (loop_values states) room) ≡ no_gate
  gate_past states room l = by_place (cases_lt (length states) room)
    where
      by_place : (length states < room) ⊎ (room ≤ length states) → gate_in (slice_get (loop_values states) room) ≡ no_gate
      by_place (inl less) = ap gate_in (none_past states room less)
      by_place (inr more) = let same : length states ≡ room = omega arith in ap gate_in (subst (λ (k : ℕ). slice_get (loop_values states) k ≡ Some (Book book)) same (book_at states))

  gate_by : (rooms : ℕ) (states : List State) (first : ℕ → State) (room : ℕ) (b : Bool) → nat_lt room rooms ≡ b → length states ≡ rooms → in_rooms states ≡ first
      → gate_in (slice_get (loop_values states) room) ≡ (if b then new_gate tables (first room) else no_gate)
  gate_by rooms states first room true e n are =
      let less : room < rooms = ltb-true room rooms e in
      ap gate_in (gate_at states room (omega arith)) ∙ ap (λ (f : ℕ → State). new_gate tables (f room)) are
  gate_by rooms states first room false e n are = let more : rooms ≤ room = ltb-false room rooms e in gate_past states room (omega arith)

  -- they are the machine of the loop
  pub begun_is : (loop : Loop) (states : List State) → book ≡ new_book loop.operator.ordered loop.ready → length states ≡ loop.operator.rooms → in_rooms states ≡ loop.states
      → begun_machine loop.operator.rooms (λ room. slice_get (loop_values states) room) ≡ loop_machine loop tables
  begun_is loop states b n are =
      let there : book_in (slice_get (loop_values states) loop.operator.rooms) ≡ book = ap book_in (subst (λ (k : ℕ). slice_get (loop_values states) k ≡ Some (Book book)) n (book_at states)) in
      λ i. record {
        gates = λ room. gate_by loop.operator.rooms states loop.states room (nat_lt room loop.operator.rooms) refl n are i;
        book = (there ∙ b) i;
        sessions = λ worker. (begun_view worker).at;
      }

  -- and new for it
  pub are_new : (op : Operator) (states : List State) → op.rooms + 1 < 2 ^ 32 → book.ordered ≡ op.ordered → book.holds ≡ [] → book.commits ≡ [] → length states ≡ op.rooms
      → AreNewFor op (λ room. slice_get (loop_values states) room)
  are_new op states few b h c n = record {
    gates = λ room l. record { gate = new_gate tables (in_rooms states room); is_there = gate_at states room (omega arith); no_done = refl; no_live = refl };
    book = record {
      book = book;
      is_there = let same : length states ≡ op.rooms = omega arith in subst (λ (k : ℕ). slice_get (loop_values states) k ≡ Some (Book book)) same (book_at states);
      ordered = b;
      no_holds = h;
      no_commits = c;
    };
    no_more = λ room l. none_past states room (omega arith);
    few = few;
  }

  -- ---- as rooms take them

  pub gates_and_book : (states : List State) → AreGatesAndBook (map tells (loop_values states))
  gates_and_book [] = refl
  gates_and_book (s ∷ []) = (refl, omega arith, refl)
  gates_and_book (s ∷ t ∷ states) = (refl, omega arith, gates_and_book (t ∷ states))

-- the gates and the book, as a loop's values
pub values_made : {T S : Type 0} (tables : GateTables) (loop : Loop) (book : BookView) (states : List State) (gates values : List (Value T S)) → length states ≡ loop.operator.rooms → in_rooms states ≡ loop.states
    → book ≡ new_book loop.operator.ordered loop.ready → gates ≡ gates_over tables states → values ≡ gates ++ Book book ∷ [] → AreValuesOf tables loop values
values_made {T} {S} tables loop book states gates values n are b g v = record {
  states = states;
  count = n;
  are_first = are;
  are = v ∙ ap (λ (xs : List (Value T S)). xs ++ Book book ∷ []) g ∙ ap (λ (x : BookView). gates_over tables states ++ Book x ∷ []) b;
}

-- a room past the gates is empty at the start
pub empty_past : (loop : Loop) (states : List State) → length states ≡ loop.operator.rooms → in_rooms states ≡ loop.states → (room : ℕ) → loop.operator.rooms ≤ room → loop.states room ≡ no_state
empty_past loop states n are room l = sym (ap (λ (f : ℕ → State). f room) are) ∙ get_or_past states room no_state (omega arith)

-- ---- the values at the end

module _ {T S : Type 0} where
  -- the states of the gates, and the book
  abbrev Taken : List (Value T S) → ℕ → (ℕ → GateView) → BookView → BookView → Type 0
  Taken values n gates book other =
      ((room : ℕ) → room < n → in_rooms (states_in values) room ≡ (gates room).state) × (length (states_in values) ≡ n) × (last_book other values ≡ book)

  object_is : (v : Value T S) (gate : GateView) → Some v ≡ Some (Object gate) → v ≡ Object gate
  object_is v gate e = cc

  book_is : (v : Value T S) (book : BookView) → Some v ≡ Some (Book book) → v ≡ Book book
  book_is v book e = cc

  in_more : (values : List (Value T S)) (n : ℕ) (gates : ℕ → GateView) → ((room : ℕ) → room < n → in_rooms (states_in values) room ≡ (gates (suc room)).state)
      → (room : ℕ) → room < suc n → in_rooms (states_in (Object (gates 0) ∷ values)) room ≡ (gates room).state
  in_more values n gates rest zero l = refl
  in_more values n gates rest (suc room) l = rest room (omega arith)

  taken : (values : List (Value T S)) (n : ℕ) (gates : ℕ → GateView) (book other : BookView) → ((room : ℕ) → room < n → slice_get values room ≡ Some (Object (gates room)))
      → slice_get values n ≡ Some (Book book) → ((room : ℕ) → n < room → slice_get values room ≡ None) → Taken values n gates book other
  taken [] n gates book other at there past = absurd (cc)
  taken (v ∷ []) zero gates book other at there past =
      subst (λ (x : Value T S). Taken (x ∷ []) zero gates book other) (sym (book_is v book there)) (λ room l. absurd (omega arith), refl, refl)
  taken (v ∷ w ∷ values) zero gates book other at there past = let none : Some w ≡ None = past 1 (omega arith) in absurd (cc)
  taken (v ∷ values) (suc n) gates book other at there past =
      let rest = taken values n (λ room. gates (suc room)) book other (λ room l. at (suc room) (omega arith)) there (λ room l. past (suc room) (omega arith)) in
      subst (λ (x : Value T S). Taken (x ∷ values) (suc n) gates book other) (sym (object_is v (gates 0) (at 0 (omega arith))))
      (in_more values n gates rest.0, (let same : length (states_in values) ≡ n = rest.1 in omega arith), rest.2)

  ends_by : (rooms : ℕ) (values : List (Value T S)) (m : Machine) (room : ℕ) (b : Bool) → nat_lt room rooms ≡ b → Taken values rooms m.gates m.book (new_book false [])
      → ((room : ℕ) → rooms ≤ room → m.gates room ≡ no_gate) → in_rooms (states_in values) room ≡ object_states m room
  ends_by rooms values m room true e t others = t.0 room (ltb-true room rooms e)
  ends_by rooms values m room false e t others =
      let more : rooms ≤ room = ltb-false room rooms e in
      let count : length (states_in values) ≡ rooms = t.1 in
      get_or_past (states_in values) room no_state (omega arith) ∙ sym (ap (λ (g : GateView). g.state) (others room more))

  states_more : (values : List (Value T S)) (v : Value T S) → states_in (values ++ v ∷ []) ≡ states_in values ++ states_in (v ∷ [])
  states_more [] v = refl
  states_more (Object gate ∷ values) v = ap (λ (states : List State). gate.state ∷ states) (states_more values v)
  states_more (Book book ∷ values) v = states_more values v

  book_more : (values : List (Value T S)) (v : Value T S) (book : BookView) → last_book book (values ++ v ∷ []) ≡ last_book (last_book book values) (v ∷ [])
  book_more [] v book = refl
  book_more (Object gate ∷ values) v book = book_more values v book
  book_more (Book other ∷ values) v book = book_more values v other

  -- one more value is taken out
  pub gate_taken : {X : Type 0} (state : X → State) (values : List (Value T S)) (v : Value T S) (gate : GateView) (shards after : List X) (object : X) (book last : BookView)
      → v ≡ Object gate → (map state shards ≡ states_in values) × (last ≡ last_book book values) → after ≡ shards ++ object ∷ [] → state object ≡ gate.state
      → (map state after ≡ states_in (values ++ v ∷ [])) × (last ≡ last_book book (values ++ v ∷ []))
  gate_taken state values v gate shards after object book last is before a o = (
    ap (map state) a ∙ map-append state shards (object ∷ []) ∙ ap (λ (states : List State). states ++ state object ∷ []) before.0
        ∙ ap (λ (s : State). states_in values ++ s ∷ []) o ∙ ap (λ (x : Value T S). states_in values ++ states_in (x ∷ [])) (sym is) ∙ sym (states_more values v),
    before.1 ∙ ap (λ (x : Value T S). last_book (last_book book values) (x ∷ [])) (sym is) ∙ sym (book_more values v book),
  )

  pub book_taken : {X : Type 0} (state : X → State) (values : List (Value T S)) (v : Value T S) (found : BookView) (shards : List X) (book last : BookView)
      → v ≡ Book found → (map state shards ≡ states_in values) × (last ≡ last_book book values)
      → (map state shards ≡ states_in (values ++ v ∷ [])) × (found ≡ last_book book (values ++ v ∷ []))
  book_taken state values v found shards book last is before = (
    before.0 ∙ sym (append-nil (states_in values)) ∙ ap (λ (x : Value T S). states_in values ++ states_in (x ∷ [])) (sym is) ∙ sym (states_more values v),
    ap (λ (x : Value T S). last_book (last_book book values) (x ∷ [])) (sym is) ∙ sym (book_more values v book),
  )

-- ---- the run

all_items : (commits : List WholeCommit) → items_of (all_counted commits) ≡ order_of commits
all_items [] = refl
all_items (c ∷ commits) = ap (λ items. c.item ∷ items) (all_items commits)

none_ready : (ready : List Item) → is_empty ready ≡ true → ready ≡ []
none_ready [] e = refl
none_ready (x ∷ xs) e = absurd (cc)

first_by : (loop : Loop) (tables : GateTables) (room : ℕ) (b : Bool) → nat_lt room loop.operator.rooms ≡ b → ((room : ℕ) → loop.operator.rooms ≤ room → loop.states room ≡ no_state)
    → GateView.state (if b then new_gate tables (loop.states room) else no_gate) ≡ loop.states room
first_by loop tables room true e past = refl
first_by loop tables room false e past = sym (past room (ltb-false room loop.operator.rooms e))

-- a serial run of the loop from its start, to its end
abbrev pub IsWholeLoopRun : Loop → List WholeCommit → (ℕ → State) → Type 0
IsWholeLoopRun loop commits after = IsSerialRun loop.operator loop.states (with_items [] loop.ready) commits (record { states = after; ready = []; outcomes = outcomes_of commits })

-- what is a serial run from the machine's first states is one from the loop's start
serial_from : (loop : Loop) (tables : GateTables) (m : Machine) → ((room : ℕ) → loop.operator.rooms ≤ room → loop.states room ≡ no_state) → is_empty m.book.ready ≡ true
    → IsSerialRun loop.operator (object_states (loop_machine loop tables)) (loop_machine loop tables).book.ready m.book.commits (end_in m (object_states m))
    → IsWholeLoopRun loop m.book.commits (object_states m)
serial_from loop tables m past none serial =
    let first : object_states (loop_machine loop tables) ≡ loop.states = λ i room. first_by loop tables room (nat_lt room loop.operator.rooms) refl past i in
    subst (λ (f : ℕ → State). IsSerialRun loop.operator f (with_items [] loop.ready) m.book.commits (record { states = object_states m; ready = []; outcomes = outcomes_of m.book.commits })) first
    (subst (λ (r : List Item). IsSerialRun loop.operator (object_states (loop_machine loop tables)) (with_items [] loop.ready) m.book.commits (record { states = object_states m; ready = r; outcomes = outcomes_of m.book.commits }))
    (none_ready m.book.ready none) serial)

-- the report of a run of the loop, where each whole run comes to what is said of it
pub is_report : {T S : Type 0} (options : RunOptions) (tables : GateTables) (loop : Loop) (trace : List Turn) (values : List (Value T S)) (order : List Commit) (states : List State) (lines text : List ℕ)
    → ((commits : List WholeCommit) (after : ℕ → State) → IsWholeLoopRun loop commits after → loop.comes_to commits after)
    → IsLoopPlayed options tables loop trace (slice_get values) → states ≡ states_in values → order ≡ all_counted (last_book (new_book false []) values).commits
    → lines ≡ loop.report (items_of order) (in_rooms states) → text ≡ lines ++ trace_text (record { turns = options.trace; told = options.told }) trace → IsReportOf options tables loop text
is_report options tables loop trace values order states lines text comes known s o l t =
    let p = known.is_played in
    let run : Run = loop_run options tables loop p.turns in
    let m : Machine = run.machine in
    let commits : List WholeCommit = m.book.commits in
    let parts = taken values loop.operator.rooms m.gates m.book (new_book false []) p.gates p.book p.no_more in
    let ends : in_rooms states ≡ object_states m =
    λ i room. (ap (λ (xs : List State). in_rooms xs room) s ∙ ends_by loop.operator.rooms values m room (nat_lt room loop.operator.rooms) refl parts p.no_others) i in
    let items : items_of order ≡ order_of commits = ap items_of (o ∙ ap (λ (b : BookView). all_counted b.commits) parts.2) ∙ all_items commits in
    let told : List Turn → List ℕ = λ turns. trace_text (record { turns = options.trace; told = options.told }) turns in
    let serial : IsWholeLoopRun loop commits (object_states m) = serial_from loop tables m known.empty_past p.ends (p.serial.whole p.ends) in
    record {
      commits = commits;
      after = object_states m;
      serial = serial;
      run = run;
      is_run = record { turns = p.turns; is_run = refl; ends = none_ready m.book.ready p.ends; unlimited = p.unlimited };
      in_order = refl;
      is_report =
          t ∙ ap (λ (x : List ℕ). x ++ told trace) (l ∙ ap (λ (is : List Item). loop.report is (in_rooms states)) items ∙ ap (λ (f : ℕ → State). loop.report (order_of commits) f) ends)
          ∙ ap (λ (turns : List Turn). loop.report (order_of commits) (object_states m) ++ told turns) p.trace_is;
      comes_to = comes commits (object_states m) serial;
    }
