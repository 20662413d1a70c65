-- Worker 0 alone meets no conflict and never waits, so it commits one item after another.
use Rattle.std.specs.Prelude.{◌≡◌, ◌⊎◌, ℕ, zero, suc, ◌+◌, ◌≤◌, Bool, true, false, not, ◌&&◌, ◌||◌, ◌==◌, if◌then◌else◌, Option, Some, None, List, [], ◌∷◌, ◌++◌, length, refl}
use Rattle.std.proofs.Common.{sym, ◌∙◌, ap, subst, inl, inr, arith}
use Rattle.gx_base.specs.declared.calls.Call.{Call as CallOf}
use Rattle.gx_base.specs.declared.calls.Reply.{Reply}
use Rattle.gx_base.specs.declared.items.Item.{Item}
use Rattle.gx_base.specs.declared.acts.Entry.{Entry}
use Rattle.gx_base.specs.States.{State}
use Rattle.gx_base.specs.Plans.{Plan, Call, Push, Done, Operator}
use Rattle.gx_base.specs.Replays.{put}
use Rattle.gx_base.specs.SerialIterations.{may_commit}
use Rattle.gx_base.specs.Worklists.{has_item, is_least}
use Rattle.gate_core.specs.Entries.{Each, is_of, entries_of, others_than}
use Rattle.gate_core.specs.Views.{gate_rows, live_start, asked_entry, in_way}
use Rattle.gate_core.proofs.CallerLemmas.{none_in_way}
use Rattle.gate_core.proofs.lists.EntryLists.{both_true}
use Rattle.commit_book.specs.BookViews.{Hold, first_free, with_hold, without_iteration, is_named}
use Rattle.commit_book.proofs.ready.ReadySets.{has_item-first}
use Rattle.speculation.specs.Events as event
use Rattle.speculation.specs.Sessions.{Session, Phase, Idle, Running, Finished, Undoing, is_idle, begun_on, ended, with_call, Ahead, Asks, Ends, ahead}
use Rattle.speculation.specs.Machines.{Machine, place_of, settled, reply_in, given_up, committed, Turned, take, answer, entry_of, undo, go, turn_in, turn_at, turn}
use Rattle.speculation.specs.ScheduledRuns.{is_empty, lone_run}
use Rattle.speculation.specs.Premises.{IsInOrder}
use Rattle.speculation.proofs.Putting.{no_bool, both_are, put_same, put_other, put_holds, same_number, numbers_equal}
use Rattle.speculation.proofs.IterationEntries.{IsCurrent, current_of, none_first}
use Rattle.speculation.proofs.InOrder.{least_first, not_empty_set}
use Rattle.speculation.proofs.Sound.{SoundMachine}
use Rattle.speculation.proofs.SoundIsSerial.{idle_entries}
use Rattle.speculation.proofs.Turns.{turn_is_sound, one_longer}
use Rattle.speculation.proofs.Tidy.{AllHeld, IsTidy, tidy_turn}
use Rattle.speculation.proofs.Runs.{IdleAt}

-- ---- nothing is in the way of worker 0

own_by : (iter : ℕ → ℕ) (item : ℕ → Item) (e : Entry) (es : List Entry) (b : Bool) → (0 == e.worker) ≡ b → ((v : ℕ) → Each (IsCurrent v (iter v) (item v)) (e ∷ es))
    → ((v : ℕ) → (0 == v) ≡ false → entries_of v (iter v) (e ∷ es) ≡ []) → is_of 0 (iter 0) e ≡ true
own_by iter item e es true q c n = current_of 0 (iter 0) (item 0) e (c 0).0 (subst (λ v. (v == 0) ≡ true) (numbers_equal 0 e.worker q) (same_number 0))
own_by iter item e es false q c n = absurd ((none_first e.worker (iter e.worker) (item e.worker) e es (c e.worker).0 (n e.worker q)).0 (same_number e.worker))

left_out : (b : Bool) (e : Entry) (os : List Entry) → b ≡ true → os ≡ [] → (if not b then e ∷ os else os) ≡ []
left_out true e os q n = n
left_out false e os q n = absurd (cc)

no_others : (iter : ℕ → ℕ) (item : ℕ → Item) (es : List Entry) → ((v : ℕ) → Each (IsCurrent v (iter v) (item v)) es) → ((v : ℕ) → (0 == v) ≡ false → entries_of v (iter v) es ≡ []) → others_than 0 (iter 0) es ≡ []
no_others iter item [] c n = refl
no_others iter item (e ∷ es) c n =
    left_out (is_of 0 (iter 0) e) e (others_than 0 (iter 0) es) (own_by iter item e es (0 == e.worker) refl c n)
    (no_others iter item es (λ v. (c v).1) (λ v q. (none_first v (iter v) (item v) e es (c v).0 (n v q)).1))

-- ---- a plan goes on to one that is nearer to its end

-- the second plan is left of the first one after its next call
abbrev pub IsLeftOf : Plan → Plan → Type 0
IsLeftOf (Call room call goes_on) left = (reply : Reply) × (left ≡ goes_on reply)
IsLeftOf (Push item rest) left = IsLeftOf rest left
IsLeftOf Done left = ⊥

and_false : (b : Bool) → (b && false) ≡ false
and_false true = refl
and_false false = refl

or_true : (a b : Bool) → b ≡ true → (a || b) ≡ true
or_true true b e = refl
or_true false b e = e

module _ (op : Operator) (starts : ℕ → State) (first : List Item) where
  -- nothing is asked of the numbers of calls, so nothing is said of the gates
  abbrev Sound : Machine → Type 0
  Sound m = SoundMachine ⊥ op starts first m

  -- worker 0 runs, and the others are idle
  pub record Works (m : Machine) (plan : Plan) : Type 0 where
    pub others : (v : ℕ) → (0 == v) ≡ false → IdleAt m v
    pub phase : (m.sessions 0).phase ≡ Running plan
    pub not_named : is_named m.book 0 (m.sessions 0).iter ≡ false
    pub may : may_commit m.book.ordered m.book.ready (m.sessions 0).item ≡ true

  pub record Rests (m : Machine) (count : ℕ) : Type 0 where
    pub idle : (v : ℕ) → IdleAt m v
    pub commits : length m.book.commits ≡ count

  -- a turn of worker 0 brings its body on
  pub record Brings (m : Machine) (count : ℕ) (plan : Plan) : Type 0 where
    pub left : Plan
    pub works : Works m left
    pub nearer : IsLeftOf plan left
    pub commits : length m.book.commits ≡ count

  clear : (m : Machine) (s : Session) (room : ℕ) (call : CallOf) → Sound m → (m.sessions 0).iter ≡ s.iter → ((v : ℕ) → (0 == v) ≡ false → IdleAt m v) → in_way (m.gates room) (asked_entry 0 s.iter s.item call (m.gates room).state) ≡ None
  clear m s room call h i idle =
      none_in_way (gate_rows (m.gates room)) (asked_entry 0 s.iter s.item call (m.gates room).state) (live_start (m.gates room)) (m.gates room).live
      (subst (λ iter. others_than 0 iter (m.gates room).live ≡ []) i
      (no_others (λ v. (m.sessions v).iter) (λ v. (m.sessions v).item) (m.gates room).live (λ v. (h.logs room v).current) (λ v n. idle_entries op ⊥ starts first m room v h (idle v n))))

  -- the session of worker 0 is of the same iteration
  record OfOwn (m : Machine) (s : Session) : Type 0 where
    iter : (m.sessions 0).iter ≡ s.iter
    item : (m.sessions 0).item ≡ s.item

  calls_on : (m : Machine) (s : Session) (plan : Plan) (room : ℕ) (call : CallOf) (goes_on : Reply → Plan) (o : Option ℕ) → Works m plan → OfOwn m s → o ≡ None → IsLeftOf plan (goes_on (reply_in (place_of m 0) room call))
      → Brings (settled m 0 (answer (place_of m 0) 0 s room call goes_on (entry_of (place_of m 0) 0 s room call) o).place) (length m.book.commits) plan
  calls_on m s plan room call goes_on o w k n f =
      let t : Session = with_call s room call goes_on (reply_in (place_of m 0) room call) in
      subst (λ x. Brings (settled m 0 (answer (place_of m 0) 0 s room call goes_on (entry_of (place_of m 0) 0 s room call) x).place) (length m.book.commits) plan) (sym n) (record {
        left = goes_on (reply_in (place_of m 0) room call);
        works = record {
          others = λ v ne. ap (λ (u : Session). is_idle u.phase) (put_other m.sessions 0 t v ne) ∙ w.others v ne;
          phase = ap (λ (u : Session). u.phase) (put_same m.sessions 0 t);
          not_named = ap (λ j. is_named m.book 0 j) (ap (λ (u : Session). u.iter) (put_same m.sessions 0 t) ∙ sym k.iter) ∙ w.not_named;
          may = ap (λ y. may_commit m.book.ordered m.book.ready y) (ap (λ (u : Session). u.item) (put_same m.sessions 0 t) ∙ sym k.item) ∙ w.may;
        };
        nearer = f;
        commits = refl;
      })

  commits_on : (m : Machine) (s : Session) → ((v : ℕ) → (0 == v) ≡ false → IdleAt m v) → Rests (settled m 0 (committed (place_of m 0) 0 s)) (suc (length m.book.commits))
  commits_on m s i = record {
    idle = put_holds (λ v (t : Session). is_idle t.phase ≡ true) m.sessions 0 (ended s) refl i;
    commits = one_longer m.book.commits (record { worker = 0; iter = s.iter; item = s.item; outcome = s.outcome });
  }

  finishes_by : (m : Machine) (s : Session) (named ready least : Bool) → named ≡ false → ready ≡ true → least ≡ true → ((v : ℕ) → (0 == v) ≡ false → IdleAt m v)
      → Rests (settled m 0 (Turned.place (if named then undo (place_of m 0) 0 s
      else (if ready then (if least then record { event = event.Commit (length m.book.commits); place = committed (place_of m 0) 0 s } else record { event = event.Wait; place = record (place_of m 0) { session = s } })
      else record { event = event.Drop; place = given_up (place_of m 0) 0 s })))) (suc (length m.book.commits))
  finishes_by m s true ready least n r l i = absurd (no_bool true refl n)
  finishes_by m s false false least n r l i = absurd (no_bool false r refl)
  finishes_by m s false true false n r l i = absurd (no_bool false l refl)
  finishes_by m s false true true n r l i = commits_on m s i

  -- a turn brings the body on, or commits
  abbrev pub Goes : Machine → ℕ → Plan → Type 0
  Goes m count plan = Brings m count plan ⊎ Rests m (suc count)

  -- where a body comes to, it has more to do than what is left of it
  abbrev Falls : Machine → Plan → Ahead → Type 0
  Falls m plan (Asks s room call goes_on) = OfOwn m s × ((reply : Reply) → IsLeftOf plan (goes_on reply))
  Falls m plan (Ends s) = OfOwn m s

  falls_more : (m : Machine) (item : Item) (rest : Plan) (a : Ahead) → Falls m rest a → Falls m (Push item rest) a
  falls_more m item rest (Asks s room call goes_on) f = f
  falls_more m item rest (Ends s) f = f

  ahead_falls : (m : Machine) (s : Session) (plan : Plan) (pushes : List Item) → OfOwn m s → Falls m plan (ahead s plan pushes)
  ahead_falls m s (Call room call goes_on) pushes k = (record { iter = k.iter; item = k.item }, λ reply. (reply, refl))
  ahead_falls m s (Push item rest) pushes k = falls_more m item rest (ahead s rest (pushes ++ item ∷ [])) (ahead_falls m s rest (pushes ++ item ∷ []) k)
  ahead_falls m s Done pushes k = record { iter = k.iter; item = k.item }

  goes : (m : Machine) (plan : Plan) (a : Ahead) → Sound m → Works m plan → Falls m plan a → Goes (settled m 0 (go (place_of m 0) 0 a).place) (length m.book.commits) plan
  goes m plan (Asks s room call goes_on) h w f =
      inl (calls_on m s plan room call goes_on (in_way (m.gates room) (entry_of (place_of m 0) 0 s room call)) w f.0 (clear m s room call h f.0.iter w.others) (f.1 (reply_in (place_of m 0) room call)))
  goes m plan (Ends s) h w f =
      let p : (has_item m.book.ready (m.sessions 0).item ≡ true) × ((not m.book.ordered || is_least m.book.ready (m.sessions 0).item) ≡ true) =
      both_true (has_item m.book.ready (m.sessions 0).item) (not m.book.ordered || is_least m.book.ready (m.sessions 0).item) w.may in
      inr (finishes_by m s (is_named m.book 0 s.iter) (has_item m.book.ready s.item) (not m.book.ordered || is_least m.book.ready s.item)
      (ap (λ j. is_named m.book 0 j) (sym f.iter) ∙ w.not_named) (ap (has_item m.book.ready) (sym f.item) ∙ p.0) (ap (λ y. not m.book.ordered || is_least m.book.ready y) (sym f.item) ∙ p.1) w.others)

  pub works_on : (m : Machine) (plan : Plan) → Sound m → Works m plan → Goes (turn op m 0) (length m.book.commits) plan
  unfolding turn_at
  works_on m plan h w =
      subst (λ p. Goes (settled m 0 (turn_in op (place_of m 0) 0 p).place) (length m.book.commits) plan) (sym w.phase)
      (goes m plan (ahead (m.sessions 0) plan (m.sessions 0).outcome.pushes) h w (ahead_falls m (m.sessions 0) plan (m.sessions 0).outcome.pushes (record { iter = refl; item = refl })))

  -- ---- with all workers idle no item is held, and worker 0 takes the first ready one

  none_held : (sessions : ℕ → Session) (hs : List Hold) → AllHeld sessions hs → ((v : ℕ) → is_idle (sessions v).phase ≡ true) → hs ≡ []
  none_held sessions [] a i = refl
  none_held sessions (h ∷ hs) a i = absurd (no_bool (is_idle (sessions h.worker).phase) (i h.worker) a.0.0)

  -- the machine after a take has as many commits
  pub record Begins (m : Machine) (count : ℕ) : Type 0 where
    pub plan : Plan
    pub works : Works m plan
    pub commits : length m.book.commits ≡ count

  takes_first : (m : Machine) (item : Item) (items : List Item) → m.book.ready ≡ item ∷ items → IsInOrder (item ∷ items) → m.book.holds ≡ [] → ((v : ℕ) → IdleAt m v)
      → Works (settled m 0 (take op (place_of m 0) 0 (Some item)).place) (op.plan item)
  takes_first m item items e s n i =
      let t : Session = begun_on op (m.sessions 0) item in
      let held : Hold = record { worker = 0; iter = (m.sessions 0).next_iter; item = item; named = false } in
      record {
        others = λ v ne. ap (λ (u : Session). is_idle u.phase) (put_other m.sessions 0 t v ne) ∙ i v;
        phase = ap (λ (u : Session). u.phase) (put_same m.sessions 0 t);
        not_named =
            ap (λ (hs : List Hold). is_named (record m.book { holds = with_hold (without_iteration hs 0 (m.sessions 0).next_iter) held }) 0 (put m.sessions 0 t 0).iter) n
            ∙ ap (λ (b : Bool). b || false) (and_false _);
        may =
            ap (λ y. may_commit m.book.ordered m.book.ready y) (ap (λ (u : Session). u.item) (put_same m.sessions 0 t)) ∙ ap (λ ready. may_commit m.book.ordered ready item) e
            ∙ both_are (has_item (item ∷ items) item) (not m.book.ordered || is_least (item ∷ items) item) (has_item-first item items) (or_true (not m.book.ordered) (is_least (item ∷ items) item) (least_first item items s));
      }

  free_is_first : (holds : List Hold) (ready : List Item) (item : Item) (items : List Item) → ready ≡ item ∷ items → holds ≡ [] → first_free holds ready ≡ Some item
  free_is_first holds ready item items e n = λ i. first_free (n i) (e i)

  takes : (m : Machine) (item : Item) (items : List Item) → m.book.ready ≡ item ∷ items → IsTidy m → ((v : ℕ) → IdleAt m v) → (p : Phase) → is_idle p ≡ true
      → Begins (settled m 0 (turn_in op (place_of m 0) 0 p).place) (length m.book.commits)
  takes m item items e t i Idle r =
      let n : m.book.holds ≡ [] = none_held m.sessions m.book.holds t.held i in
      subst (λ o. Begins (settled m 0 (take op (place_of m 0) 0 o).place) (length m.book.commits)) (sym (free_is_first m.book.holds m.book.ready item items e n))
      (record { plan = op.plan item; works = takes_first m item items e (subst IsInOrder e t.in_order) n i; commits = refl })
  takes m item items e t i (Running plan) r = absurd (no_bool false r refl)
  takes m item items e t i Finished r = absurd (no_bool false r refl)
  takes m item items e t i Undoing r = absurd (no_bool false r refl)

  pub takes_turn : (m : Machine) (item : Item) (items : List Item) → m.book.ready ≡ item ∷ items → IsTidy m → ((v : ℕ) → IdleAt m v) → Begins (turn op m 0) (length m.book.commits)
  unfolding turn_at
  takes_turn m item items e t i = takes m item items e t i (m.sessions 0).phase (i 0)

  -- ---- so many commits, or nothing ready

  module _ (limit : ℕ) where
    abbrev pub AtEnd : Machine → Type 0
    AtEnd m = (is_empty m.book.ready ≡ true) ⊎ (limit ≤ length m.book.commits)

    abbrev pub ComesToEnd : Machine → Type 0
    ComesToEnd m = (turns : ℕ) × AtEnd (lone_run op m turns)

    one_turn : (m : Machine) → is_empty m.book.ready ≡ false → ComesToEnd (turn op m 0) → ComesToEnd m
    unfolding lone_run
    one_turn m e h = (suc h.0, subst (λ (b : Bool). AtEnd (if b then m else lone_run op (turn op m 0) h.0)) (sym e) h.1)

    abbrev Then : ℕ → Type 0
    Then count = (n : Machine) → Sound n → IsTidy n → Rests n (suc count) → ComesToEnd n

    ready_now : (m : Machine) (plan : Plan) → Works m plan → is_empty m.book.ready ≡ false
    ready_now m plan w = not_empty_set m.book.ready (m.sessions 0).item (both_true (has_item m.book.ready (m.sessions 0).item) (not m.book.ordered || is_least m.book.ready (m.sessions 0).item) w.may).0

    -- what is to be shown of a body where it has come to a plan
    abbrev BodyEnds : ℕ → Plan → Type 0
    BodyEnds count plan = (m : Machine) → length m.book.commits ≡ count → Sound m → IsTidy m → Works m plan → Then count → ComesToEnd m

    -- a plan all of whose rests come to the end does
    body_by : (count : ℕ) (plan : Plan) → ((left : Plan) → IsLeftOf plan left → BodyEnds count left) → BodyEnds count plan
    body_by count plan more m c h t w next =
        let e : is_empty m.book.ready ≡ false = ready_now m plan w in
        let h' : Sound (turn op m 0) = turn_is_sound ⊥ op starts first m 0 (λ none. absurd none) h in
        let t' : IsTidy (turn op m 0) = tidy_turn op m 0 t in
        one_turn m e (goes_by (turn op m 0) h' t' (subst (λ n. Goes (turn op m 0) n plan) c (works_on m plan h w)))
      where
        goes_by : (n : Machine) → Sound n → IsTidy n → Goes n count plan → ComesToEnd n
        goes_by n h' t' (inl b) = more b.left b.nearer n b.commits h' t' b.works next
        goes_by n h' t' (inr r) = next n h' t' r

    -- what is left of a plan after its acts comes to the end
    rests_end : (count : ℕ) (plan : Plan) → (left : Plan) → IsLeftOf plan left → BodyEnds count left
    rests_end count (Call room call goes_on) left l = subst (BodyEnds count) (sym l.1) (body_by count (goes_on l.0) (rests_end count (goes_on l.0)))
    rests_end count (Push item rest) left l = rests_end count rest left l
    rests_end count Done left l = absurd l

    body_ends : (count : ℕ) (plan : Plan) → BodyEnds count plan
    body_ends count plan = body_by count plan (rests_end count plan)

    lone_by : (j : ℕ) (m : Machine) (count : ℕ) (ready : List Item) → m.book.ready ≡ ready → Sound m → IsTidy m → Rests m count → Then count → ComesToEnd m
    unfolding lone_run
    lone_by j m count [] e h t r next = (zero, inl (ap is_empty e))
    lone_by j m count (item ∷ items) e h t r next =
        let n : is_empty m.book.ready ≡ false = ap is_empty e in
        let b : Begins (turn op m 0) count = subst (λ k. Begins (turn op m 0) k) r.commits (takes_turn m item items e t r.idle) in
        one_turn m n (body_ends count b.plan (turn op m 0) b.commits (turn_is_sound ⊥ op starts first m 0 (λ none. absurd none) h) (tidy_turn op m 0 t) b.works next)

    pub lone_ends : (j : ℕ) (m : Machine) (count : ℕ) → Sound m → IsTidy m → Rests m count → limit ≤ count + j → ComesToEnd m
    unfolding lone_run
    lone_ends zero m count h t r l = (zero, inr (let c : length m.book.commits ≡ count = r.commits in omega arith))
    lone_ends (suc j) m count h t r l = lone_by j m count m.book.ready refl h t r (λ n h' t' r'. lone_ends j n (suc count) h' t' r' (omega arith))
