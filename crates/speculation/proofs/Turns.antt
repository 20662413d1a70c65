-- Each turn keeps the machine sound.
use Rattle.std.specs.Prelude.{◌≡◌, ℕ, suc, ◌≤◌, Bool, true, false, not, ◌&&◌, ◌||◌, ◌==◌, if◌then◌else◌, Option, Some, None, List, [], ◌∷◌, ◌++◌, length, refl}
use Rattle.std.proofs.Common.{sym, ◌∙◌, ap, subst}
use Rattle.std.proofs.lemmas.List.{append_assoc, append-nil}
use Rattle.gx_base.specs.declared.calls.Call.{Call as CallOf}
use Rattle.gx_base.specs.declared.calls.Reply.{Reply}
use Rattle.gx_base.specs.declared.items.Item.{Item}
use Rattle.gx_base.specs.declared.acts.Entry.{Entry}
use Rattle.gx_base.specs.declared.acts.Step.{Step}
use Rattle.gx_base.specs.States.{State}
use Rattle.gx_base.specs.Meanings.{IsCall}
use Rattle.gx_base.specs.Steps.{reply_to}
use Rattle.gx_base.specs.Plans.{Plan, Call, Operator}
use Rattle.gx_base.specs.BodyRuns.{begun, called}
use Rattle.gx_base.specs.Outcomes.{WholeCommit, journal}
use Rattle.gx_base.specs.Replays.{put}
use Rattle.gx_base.specs.SerialIterations.{may_commit, ready_after}
use Rattle.gx_base.specs.SerialRuns.{AreInTurn, IsRunOf, AreRunsOf}
use Rattle.gx_base.specs.Worklists.{has_item, is_before, is_least}
use Rattle.gate_core.specs.Entries.{mades_of, entries_of}
use Rattle.gate_core.specs.Views.{GateView, asked_entry, in_way, admit, undo_last, release}
use Rattle.commit_book.specs.BookViews.{BookView, Hold, free_item, without_iteration, with_hold, with_name, is_named}
use Rattle.speculation.specs.Events.{Event}
use Rattle.speculation.specs.Events as event
use Rattle.speculation.specs.Sessions.{Session, Phase, Idle, Running, Finished, Undoing, begun_on, ended, with_call, undoing, undone_to, Ahead, Asks, Ends, ahead, last_step, steps_before, has_no_step}
use Rattle.speculation.specs.Machines.{Machine, place_of, settled, called as called_at, named_off, let_go, given_up, committed, Turned, take, live_at, answer, entry_of, undo_step, undo, finish, go, turn_in, turn_at, turn}
use Rattle.speculation.specs.Premises.{AsksCall}
use Rattle.speculation.proofs.Putting.{put_holds, put_itself, both_are}
use Rattle.speculation.proofs.IterationEntries.{Fresh, fresh, no_mades}
use Rattle.speculation.proofs.Steps.{is_none, last_is_none, last_is_last}
use Rattle.speculation.proofs.Sound.{SoundGate, SoundLog, SoundLogOf, IsSoFar, SoundPhase, SoundBook, SoundMachine}
use Rattle.speculation.proofs.Bodies.{Same, ComesTo, comes_to, IsAskedCall, next_is_asked}
use Rattle.speculation.proofs.GateTurns.{undo_marks, release_marks, gate_admits, gate_undoes, gate_releases, log_admits, log_admits_other, log_elsewhere, log_back_elsewhere, log_undoes, log_undoes_other, log_releases, log_releases_other}

-- ---- one commit more

pub journal_grows : (cs : List WholeCommit) (c : WholeCommit) → journal (cs ++ c ∷ []) ≡ journal cs ++ c.outcome.steps
journal_grows [] c = append-nil c.outcome.steps
journal_grows (x ∷ cs) c = ap (λ ys. x.outcome.steps ++ ys) (journal_grows cs c) ∙ sym (append_assoc x.outcome.steps (journal cs) c.outcome.steps)

pub one_longer : (cs : List WholeCommit) (c : WholeCommit) → length (cs ++ c ∷ []) ≡ suc (length cs)
one_longer [] c = refl
one_longer (x ∷ cs) c = ap suc (one_longer cs c)

in_turn_grows : (ordered : Bool) (ready left : List Item) (cs : List WholeCommit) (c : WholeCommit) → AreInTurn ordered ready cs left → may_commit ordered left c.item ≡ true → AreInTurn ordered ready (cs ++ c ∷ []) (ready_after left c.item c.outcome)
in_turn_grows ordered ready left [] c h m = (ap (λ r. may_commit ordered r c.item) h ∙ m, ap (λ r. ready_after r c.item c.outcome) h)
in_turn_grows ordered ready left (x ∷ cs) c h m = (h.0, in_turn_grows ordered (ready_after ready x.item x.outcome) left cs c h.1 m)

runs_grow : (op : Operator) (cs : List WholeCommit) (c : WholeCommit) → AreRunsOf op cs → IsRunOf (op.plan c.item) c.outcome → AreRunsOf op (cs ++ c ∷ [])
runs_grow op [] c h r = (r, tt)
runs_grow op (x ∷ cs) c h r = (h.0, runs_grow op cs c h.1 r)

-- ---- other sessions, holds and gates

-- the machine with another session of the worker and other holds, and with another gate too
abbrev pub sessioned : Machine → ℕ → Session → List Hold → Machine
sessioned m worker s holds = record { gates = m.gates; book = record m.book { holds = holds }; sessions = put m.sessions worker s }

abbrev pub gated : Machine → ℕ → Session → List Hold → ℕ → GateView → Machine
gated m worker s holds room g = record { gates = put m.gates room g; book = record m.book { holds = holds }; sessions = put m.sessions worker s }

-- a turn that changes nothing
pub settled_itself : (m : Machine) (worker : ℕ) → settled m worker (place_of m worker) ≡ m
settled_itself m worker = λ i. record { gates = m.gates; book = m.book; sessions = λ v. put_itself m.sessions worker v i }

module _ (claim : Type 0) (op : Operator) (starts : ℕ → State) (first : List Item) where
  abbrev pub Sound : Machine → Type 0
  Sound m = SoundMachine claim op starts first m

  own_log : (m : Machine) (worker : ℕ) (s : Session) (room : ℕ) → Sound m → Same (m.sessions worker) s → SoundLogOf room worker s (m.gates room).live
  own_log m worker s room h k =
      subst (λ steps. SoundLog room worker s.iter s.item steps (m.gates room).live) k.steps
      (subst (λ item. SoundLog room worker s.iter item (m.sessions worker).outcome.steps (m.gates room).live) k.item
      (subst (λ iter. SoundLog room worker iter (m.sessions worker).item (m.sessions worker).outcome.steps (m.gates room).live) k.iter (h.logs room worker)))

  same_book : (b : BookView) (holds : List Hold) → SoundBook op first b → SoundBook op first (record b { holds = holds })
  same_book b holds h = record { ordered = h.ordered; in_turn = h.in_turn; runs = h.runs }

  pub resessioned : (m : Machine) (worker : ℕ) (s : Session) (holds : List Hold) → Sound m → ((room : ℕ) → SoundLogOf room worker s (m.gates room).live) → SoundPhase op s.item s.outcome s.phase → Sound (sessioned m worker s holds)
  resessioned m worker s holds h l p = record {
    gates = h.gates;
    logs = λ room v. put_holds (λ v t. SoundLogOf room v t (m.gates room).live) m.sessions worker s (l room) (λ v n. h.logs room v) v;
    sessions = λ v. put_holds (λ v t. SoundPhase op t.item t.outcome t.phase) m.sessions worker s p (λ v n. h.sessions v) v;
    book = same_book m.book holds h.book;
    marks = h.marks;
  }

  regated : (m : Machine) (worker : ℕ) (s : Session) (holds : List Hold) (room : ℕ) (g : GateView) → Sound m
      → (claim → SoundGate (starts room) room (journal m.book.commits) g)
      → SoundLogOf room worker s g.live
      → ((v : ℕ) → (worker == v) ≡ false → SoundLogOf room v (m.sessions v) g.live)
      → ((r : ℕ) → (room == r) ≡ false → SoundLogOf r worker s (m.gates r).live)
      → SoundPhase op s.item s.outcome s.phase
      → g.mark ≤ length m.book.commits
      → Sound (gated m worker s holds room g)
  regated m worker s holds room g h hg here others rooms p k = record {
    gates = λ c. put_holds (λ r x. SoundGate (starts r) r (journal m.book.commits) x) m.gates room g (hg c) (λ r n. h.gates c r);
    logs =
        put_holds (λ r (x : GateView). (v : ℕ) → SoundLogOf r v (put m.sessions worker s v) x.live) m.gates room g
        (put_holds (λ v t. SoundLogOf room v t g.live) m.sessions worker s here others)
        (λ r n. put_holds (λ v t. SoundLogOf r v t (m.gates r).live) m.sessions worker s (rooms r n) (λ v ne. h.logs r v));
    sessions = λ v. put_holds (λ v t. SoundPhase op t.item t.outcome t.phase) m.sessions worker s p (λ v n. h.sessions v) v;
    book = same_book m.book holds h.book;
    marks = put_holds (λ r (x : GateView). x.mark ≤ length m.book.commits) m.gates room g k (λ r n. h.marks r);
  }

  -- ---- an iteration is over

  pub lets_go : (m : Machine) (worker : ℕ) (s : Session) → Sound m → Same (m.sessions worker) s → s.outcome.steps ≡ [] → Sound (settled m worker (let_go (place_of m worker) worker s))
  lets_go m worker s h k e =
      resessioned m worker (ended s) (without_iteration m.book.holds worker s.iter) h (λ room. subst (λ steps. SoundLog room worker s.iter s.item steps (m.gates room).live) e (own_log m worker s room h k)) refl

  gives_up_by : (m : Machine) (worker : ℕ) (s : Session) (b : Bool) → has_no_step s.outcome.steps ≡ b → Sound m → Same (m.sessions worker) s
      → Sound (settled m worker (if b then let_go (place_of m worker) worker s else record (place_of m worker) { session = undoing s }))
  gives_up_by m worker s true e h k = lets_go m worker s h k (is_none s.outcome.steps e)
  gives_up_by m worker s false e h k = resessioned m worker (undoing s) m.book.holds h (λ room. own_log m worker s room h k) tt

  pub gives_up : (m : Machine) (worker : ℕ) (s : Session) → Sound m → Same (m.sessions worker) s → Sound (settled m worker (given_up (place_of m worker) worker s))
  gives_up m worker s h k = gives_up_by m worker s (has_no_step s.outcome.steps) refl h k

  -- ---- a take

  takes : (m : Machine) (worker : ℕ) (o : Option Item) → Sound m → (m.sessions worker).outcome.steps ≡ [] → Sound (settled m worker (take op (place_of m worker) worker o).place)
  takes m worker None h e = subst Sound (sym (settled_itself m worker)) h
  takes m worker (Some item) h e =
      let s : Session = m.sessions worker in
      resessioned m worker (begun_on op s item) (with_hold (without_iteration m.book.holds worker s.next_iter) (record { worker = worker; iter = s.next_iter; item = item; named = false })) h
      (λ room.
      let l : SoundLog room worker s.iter s.item [] (m.gates room).live = subst (λ steps. SoundLog room worker s.iter s.item steps (m.gates room).live) e (h.logs room worker) in
      let f : Fresh worker s.next_iter item (m.gates room).live = fresh worker s.iter s.next_iter s.item item (m.gates room).live l.current (no_mades (entries_of worker s.iter (m.gates room).live) l.entries) in
      record { current = f.current; entries = ap mades_of f.none })
      (record { runs = begun; withdraws_nothing = refl })

  -- ---- an undo

  undoes_one : (m : Machine) (worker : ℕ) (s t : Session) (holds : List Hold) (x : Step) → Sound m → Same (m.sessions worker) s → s.iter ≡ t.iter → s.item ≡ t.item → s.outcome.steps ≡ t.outcome.steps ++ x ∷ []
      → SoundPhase op t.item t.outcome t.phase → Sound (gated m worker t holds x.room (undo_last (m.gates x.room) worker t.iter))
  undoes_one m worker s t holds x h k i j e p =
      let log : (room : ℕ) → SoundLog room worker t.iter t.item (t.outcome.steps ++ x ∷ []) (m.gates room).live =
      λ room. subst (λ n. SoundLog room worker n t.item (t.outcome.steps ++ x ∷ []) (m.gates room).live) i
      (subst (λ n. SoundLog room worker s.iter n (t.outcome.steps ++ x ∷ []) (m.gates room).live) j (subst (λ steps. SoundLog room worker s.iter s.item steps (m.gates room).live) e (own_log m worker s room h k))) in
      regated m worker t holds x.room (undo_last (m.gates x.room) worker t.iter) h
      (λ c. gate_undoes (starts x.room) x.room (journal m.book.commits) (m.gates x.room) worker t.iter (h.gates c x.room))
      (log_undoes worker t.iter t.item (m.gates x.room) t.outcome.steps x (log x.room))
      (λ v n. log_undoes_other worker t.iter x.room v (m.sessions v).iter (m.sessions v).item n (m.gates x.room) (m.sessions v).outcome.steps (h.logs x.room v))
      (λ r n. log_back_elsewhere worker t.iter t.item x r t.outcome.steps (m.gates r).live n (log r))
      p (subst (λ mark. mark ≤ length m.book.commits) (sym (undo_marks (m.gates x.room) worker t.iter)) (h.marks x.room))

  undoes_last : (m : Machine) (worker : ℕ) (s : Session) (x : Step) (b : Bool) → has_no_step (steps_before s.outcome.steps) ≡ b → Sound m → Same (m.sessions worker) s → s.outcome.steps ≡ steps_before s.outcome.steps ++ x ∷ []
      → Sound (settled m worker (if b then record { gates = put m.gates x.room (undo_last (m.gates x.room) worker s.iter); book = record m.book { holds = without_iteration m.book.holds worker s.iter }; session = ended s }
      else record { gates = put m.gates x.room (undo_last (m.gates x.room) worker s.iter); book = m.book; session = undone_to s (steps_before s.outcome.steps) }))
  undoes_last m worker s x true e h k l = undoes_one m worker s (ended s) (without_iteration m.book.holds worker s.iter) x h k refl refl (l ∙ ap (λ ys. ys ++ x ∷ []) (is_none (steps_before s.outcome.steps) e)) refl
  undoes_last m worker s x false e h k l = undoes_one m worker s (undone_to s (steps_before s.outcome.steps)) m.book.holds x h k refl refl l tt

  undoes_by : (m : Machine) (worker : ℕ) (s : Session) (o : Option Step) → last_step s.outcome.steps ≡ o → Sound m → Same (m.sessions worker) s → Sound (settled m worker (undo_step (place_of m worker) worker s o).place)
  undoes_by m worker s None e h k = lets_go m worker s h k (last_is_none s.outcome.steps e)
  undoes_by m worker s (Some x) e h k = undoes_last m worker s x (has_no_step (steps_before s.outcome.steps)) refl h k (last_is_last s.outcome.steps x e)

  pub undoes : (m : Machine) (worker : ℕ) (s : Session) → Sound m → Same (m.sessions worker) s → Sound (settled m worker (undo (place_of m worker) worker s).place)
  undoes m worker s h k = undoes_by m worker s (last_step s.outcome.steps) refl h k

  -- ---- a call, or a conflict

  conflicts_by : (m : Machine) (worker : ℕ) (s : Session) (held : Entry) (b : Bool) → Sound m → Same (m.sessions worker) s → SoundPhase op s.item s.outcome s.phase
      → Sound (settled m worker (if b then named_off (place_of m worker) s held else given_up (place_of m worker) worker s))
  conflicts_by m worker s held true h k p = resessioned m worker s (with_name m.book.holds held.worker held.iter s.item) h (λ room. own_log m worker s room h k) p
  conflicts_by m worker s held false h k p = gives_up m worker s h k

  pub admits : (m : Machine) (worker : ℕ) (s : Session) (room : ℕ) (call : CallOf) (goes_on : Reply → Plan) → Sound m → Same (m.sessions worker) s → IsSoFar (op.plan s.item) s.outcome (Call room call goes_on) → (claim → IsCall call)
      → in_way (m.gates room) (asked_entry worker s.iter s.item call (m.gates room).state) ≡ None → Sound (settled m worker (called_at (place_of m worker) worker s room call goes_on))
  admits m worker s room call goes_on h k a bits n =
      let reply : Reply = reply_to (m.gates room).state call in
      let x : Step = record { room = room; call = call; reply = reply } in
      regated m worker (with_call s room call goes_on reply) m.book.holds room (admit (m.gates room) worker s.iter s.item call) h
      (λ c. gate_admits (starts room) room (journal m.book.commits) (m.gates room) worker s.iter s.item call (h.gates c room) (bits c) n)
      (log_admits worker s.iter s.item (m.gates room) room call s.outcome.steps (own_log m worker s room h k))
      (λ v ne. log_admits_other worker s.iter s.item (m.gates room) room v (m.sessions v).iter (m.sessions v).item call (m.sessions v).outcome.steps ne (h.logs room v))
      (λ r ne. log_elsewhere worker s.iter s.item x r s.outcome.steps (m.gates r).live ne (own_log m worker s r h k))
      (record { runs = called s.outcome.steps s.outcome.pushes room call goes_on reply a.runs; withdraws_nothing = a.withdraws_nothing }) (h.marks room)

  answers : (m : Machine) (worker : ℕ) (s : Session) (room : ℕ) (call : CallOf) (goes_on : Reply → Plan) (o : Option ℕ) → Sound m → Same (m.sessions worker) s → IsSoFar (op.plan s.item) s.outcome (Call room call goes_on)
      → s.phase ≡ Running (Call room call goes_on) → (claim → IsCall call) → in_way (m.gates room) (asked_entry worker s.iter s.item call (m.gates room).state) ≡ o
      → Sound (settled m worker (answer (place_of m worker) worker s room call goes_on (entry_of (place_of m worker) worker s room call) o).place)
  answers m worker s room call goes_on None h k a q c n = admits m worker s room call goes_on h k a c n
  answers m worker s room call goes_on (Some place) h k a q c n =
      let held : Entry = live_at (m.gates room) place (entry_of (place_of m worker) worker s room call) in
      conflicts_by m worker s held (m.book.ordered && is_before s.item held.item) h k (subst (λ p. SoundPhase op s.item s.outcome p) (sym q) a)

  -- ---- a commit

  -- the entries of the iteration are the next steps of the journal
  pub commits : (m : Machine) (worker : ℕ) (s : Session) → Sound m → Same (m.sessions worker) s → IsRunOf (op.plan s.item) s.outcome → may_commit m.book.ordered m.book.ready s.item ≡ true
      → Sound (settled m worker (committed (place_of m worker) worker s))
  commits m worker s h k r may =
      let c : WholeCommit = record { worker = worker; iter = s.iter; item = s.item; outcome = s.outcome } in
      let cs : List WholeCommit = m.book.commits in
      let grown : journal cs ++ s.outcome.steps ≡ journal (cs ++ c ∷ []) = sym (journal_grows cs c) in
      record {
        gates = λ by room. subst (λ steps. SoundGate (starts room) room steps (release (m.gates room) worker s.iter (length cs))) grown
            (gate_releases (starts room) room (journal cs) (m.gates room) worker s.iter (length cs) s.outcome.steps (h.gates by room) (h.marks room) (own_log m worker s room h k).entries);
        logs = λ room. put_holds (λ v t. SoundLogOf room v t (release (m.gates room) worker s.iter (length cs)).live) m.sessions worker (ended s)
            (log_releases worker s.iter s.item (m.gates room) (length cs) room s.outcome.steps (own_log m worker s room h k))
            (λ v n. log_releases_other worker s.iter room v (m.sessions v).iter (m.sessions v).item n (m.gates room) (length cs) (m.sessions v).outcome.steps (h.logs room v));
        sessions = put_holds (λ v t. SoundPhase op t.item t.outcome t.phase) m.sessions worker (ended s) refl (λ v n. h.sessions v);
        book = record {
          ordered = h.book.ordered;
          in_turn = in_turn_grows op.ordered first m.book.ready cs c h.book.in_turn (ap (λ b. may_commit b m.book.ready s.item) (sym h.book.ordered) ∙ may);
          runs = runs_grow op cs c h.book.runs r;
        };
        marks = λ room. subst (λ n. (release (m.gates room) worker s.iter (length cs)).mark ≤ n) (sym (one_longer cs c)) (release_marks (m.gates room) worker s.iter (length cs) (h.marks room));
      }

  finishes_by : (m : Machine) (worker : ℕ) (s : Session) (named ready least : Bool) → has_item m.book.ready s.item ≡ ready → (not m.book.ordered || is_least m.book.ready s.item) ≡ least
      → Sound m → Same (m.sessions worker) s → s.phase ≡ Finished → IsRunOf (op.plan s.item) s.outcome
      → Sound (settled m worker (Turned.place (if named then undo (place_of m worker) worker s
      else (if ready then (if least then record { event = event.Commit (length m.book.commits); place = committed (place_of m worker) worker s } else record { event = event.Wait; place = record (place_of m worker) { session = s } })
      else record { event = event.Drop; place = given_up (place_of m worker) worker s }))))
  finishes_by m worker s true ready least e f h k p r = undoes m worker s h k
  finishes_by m worker s false false least e f h k p r = gives_up m worker s h k
  finishes_by m worker s false true true e f h k p r = commits m worker s h k r (both_are (has_item m.book.ready s.item) (not m.book.ordered || is_least m.book.ready s.item) e f)
  finishes_by m worker s false true false e f h k p r = resessioned m worker s m.book.holds h (λ room. own_log m worker s room h k) (subst (λ q. SoundPhase op s.item s.outcome q) (sym p) r)

  pub finishes : (m : Machine) (worker : ℕ) (s : Session) → Sound m → Same (m.sessions worker) s → s.phase ≡ Finished → IsRunOf (op.plan s.item) s.outcome → Sound (settled m worker (finish (place_of m worker) worker s).place)
  finishes m worker s h k p r = finishes_by m worker s (is_named m.book worker s.iter) (has_item m.book.ready s.item) (not m.book.ordered || is_least m.book.ready s.item) refl refl h k p r

  -- ---- any turn

  body_goes_on : (m : Machine) (worker : ℕ) (a : Ahead) → Sound m → ComesTo (op.plan (m.sessions worker).item) (m.sessions worker) a → (claim → IsAskedCall a) → Sound (settled m worker (go (place_of m worker) worker a).place)
  body_goes_on m worker (Asks s room call goes_on) h a c =
      answers m worker s room call goes_on (in_way (m.gates room) (entry_of (place_of m worker) worker s room call)) h a.2 (subst (λ item. IsSoFar (op.plan item) s.outcome (Call room call goes_on)) a.2.item a.0) a.1 c refl
  body_goes_on m worker (Ends s) h a c = finishes m worker s h a.2 a.1 (subst (λ item. IsRunOf (op.plan item) s.outcome) a.2.item a.0)

  turns_in : (m : Machine) (worker : ℕ) (p : Phase) → (m.sessions worker).phase ≡ p → Sound m → SoundPhase op (m.sessions worker).item (m.sessions worker).outcome p → (claim → AsksCall p)
      → Sound (settled m worker (turn_in op (place_of m worker) worker p).place)
  turns_in m worker Idle e h p c = takes m worker (free_item m.book) h p
  turns_in m worker (Running plan) e h p c =
      let s : Session = m.sessions worker in
      body_goes_on m worker (ahead s plan s.outcome.pushes) h (comes_to (op.plan s.item) s plan s.outcome.pushes p) (λ by. next_is_asked s plan s.outcome.pushes (c by))
  turns_in m worker Finished e h p c = finishes m worker (m.sessions worker) h (record { iter = refl; item = refl; steps = refl }) e p
  turns_in m worker Undoing e h p c = undoes m worker (m.sessions worker) h (record { iter = refl; item = refl; steps = refl })

  -- each turn of a worker keeps the machine sound, where by the claim the call that it asks has numbers of 64 bits
  pub turn_is_sound : (m : Machine) (worker : ℕ) → (claim → AsksCall (m.sessions worker).phase) → Sound m → Sound (turn op m worker)
  unfolding turn_at
  turn_is_sound m worker c h = turns_in m worker (m.sessions worker).phase refl h (h.sessions worker) c
