-- Whole runs stay sound, and end with all workers idle.
use Rattle.std.specs.Prelude.{◌≡◌, ◌⊎◌, ℕ, zero, suc, ◌<◌, ◌≤◌, Bool, true, false, ◌==◌, if◌then◌else◌, Option, Some, None, List, [], ◌∷◌, length, refl}
use Rattle.std.proofs.Common.{sym, ◌∙◌, ap, subst, inl, inr, arith}
use Rattle.std.proofs.Math.Nat.{eq-or-lt_of_le}
use Rattle.gx_base.specs.States.{State}
use Rattle.gx_base.specs.declared.items.Item.{Item}
use Rattle.gx_base.specs.declared.acts.Step.{Step}
use Rattle.gx_base.specs.Plans.{Operator}
use Rattle.gx_base.specs.Replays.{put}
use Rattle.gate_core.specs.Views.{undo_last}
use Rattle.commit_book.specs.BookViews.{put_back}
use Rattle.speculation.specs.Sessions.{Session, is_idle, ended, undone_to, last_step, steps_before, has_no_step}
use Rattle.speculation.specs.Machines.{Machine, place_of, settled, let_go, undo_step, undo, turn_at, turn}
use Rattle.speculation.specs.ScheduledRuns.{is_empty, Run, begun, then_turned, scheduled, drain_step, drain_steps, drain_worker, drain, lone_run, drained, played, AllBelow}
use Rattle.speculation.specs.Premises.{IsNew, ScheduledAsk, AloneAsk, AsksCalls}
use Rattle.speculation.specs.RunResults.{object_states}
use Rattle.speculation.proofs.Putting.{no_bool, put_same, numbers_equal, same_number}
use Rattle.speculation.proofs.Steps.{is_none, last_is_last, fewer_before}
use Rattle.speculation.proofs.Bodies.{Same}
use Rattle.speculation.proofs.Sound.{SoundMachine}
use Rattle.speculation.proofs.Turns.{lets_go, undoes, turn_is_sound}
use Rattle.speculation.proofs.Quiet.{quiet, quiet_undo, quiet_let_go}
use Rattle.speculation.proofs.SoundIsSerial.{new_is_sound}

apart_by : (v w : ℕ) (b : Bool) → (v == w) ≡ b → v < w → b ≡ false
apart_by v w true e h = absurd (let k : v ≡ w = numbers_equal v w e in omega arith)
apart_by v w false e h = refl

apart : (v w : ℕ) → v < w → (v == w) ≡ false
apart v w h = apart_by v w (v == w) refl h

differs : (worker v : ℕ) → v < suc worker → (v ≡ worker → ⊥) → v < worker
differs worker v h n = omega arith

below_next : (worker v : ℕ) → v < suc worker → (worker == v) ≡ false → v < worker
below_next worker v h n = differs worker v h (λ k. no_bool (worker == v) (subst (λ j. (worker == j) ≡ true) (sym k) (same_number worker)) n)

-- what holds of a run and of another holds of the one that is chosen
pub chosen : (P : Machine → Type 0) (b : Bool) (r n : Run) → (b ≡ true → P r.machine) → (b ≡ false → P n.machine) → P (if b then r else n).machine
chosen P true r n h k = h refl
chosen P false r n h k = k refl

pub chosen_machine : (P : Machine → Type 0) (b : Bool) (m n : Machine) → (b ≡ true → P m) → (b ≡ false → P n) → P (if b then m else n)
chosen_machine P true m n h k = h refl
chosen_machine P false m n h k = k refl

-- ---- runs stay sound

own : (s : Session) → Same s s
own s = record { iter = refl; item = refl; steps = refl }

module _ (claim : Type 0) (op : Operator) (starts : ℕ → State) (first : List Item) where
  abbrev pub Sound : Machine → Type 0
  Sound m = SoundMachine claim op starts first m

  pub scheduled_is_sound : (schedule : List ℕ) (r : Run) → (claim → ScheduledAsk op r schedule) → Sound r.machine → Sound (scheduled op r schedule).machine
  unfolding scheduled
  scheduled_is_sound [] r a h = h
  scheduled_is_sound (worker ∷ schedule) r a h =
      let n : Run = then_turned r worker (turn_at op (place_of r.machine worker) worker) in
      chosen Sound (is_empty r.machine.book.ready) r (scheduled op n schedule) (λ e. h)
      (λ e. scheduled_is_sound schedule n (λ c. (a c e).1) (turn_is_sound claim op starts first r.machine worker (λ c. (a c e).0) h))

  pub step_is_sound : (r : Run) (worker : ℕ) → Sound r.machine → Sound (drain_step r worker).machine
  step_is_sound r worker h =
      let m : Machine = r.machine in
      let s : Session = m.sessions worker in
      let gone : Run = record r { machine = settled m worker (let_go (place_of m worker) worker s) } in
      let less : Run = then_turned r worker (undo (place_of m worker) worker s) in
      chosen Sound (is_idle s.phase) r (if has_no_step s.outcome.steps then gone else less) (λ e. h)
      (λ e. chosen Sound (has_no_step s.outcome.steps) gone less (λ n. lets_go claim op starts first m worker s h (own s) (is_none s.outcome.steps n)) (λ n. undoes claim op starts first m worker s h (own s)))

  steps_are_sound : (n : ℕ) (r : Run) (worker : ℕ) → Sound r.machine → Sound (drain_steps n r worker).machine
  steps_are_sound zero r worker h = h
  steps_are_sound (suc n) r worker h = steps_are_sound n (drain_step r worker) worker (step_is_sound r worker h)

  pub drain_is_sound : (workers : ℕ) (r : Run) → Sound r.machine → Sound (drain r workers).machine
  unfolding drain drain_worker
  drain_is_sound zero r h = h
  drain_is_sound (suc worker) r h = steps_are_sound (suc (length ((drain r worker).machine.sessions worker).outcome.steps)) (drain r worker) worker (drain_is_sound worker r h)

  pub alone_is_sound : (n : ℕ) (m : Machine) → (claim → AloneAsk op m n) → Sound m → Sound (lone_run op m n)
  unfolding lone_run
  alone_is_sound zero m a h = h
  alone_is_sound (suc n) m a h =
      chosen_machine Sound (is_empty m.book.ready) m (lone_run op (turn op m 0) n) (λ e. h) (λ e. alone_is_sound n (turn op m 0) (λ c. (a c e).1) (turn_is_sound claim op starts first m 0 (λ c. (a c e).0) h))

module _ (claim : Type 0) (op : Operator) where
  pub drained_is_sound : (m : Machine) (workers : ℕ) (schedule : List ℕ) → IsNew op m → (claim → ScheduledAsk op (begun m) schedule) → SoundMachine claim op (object_states m) m.book.ready (drained op m workers schedule).machine
  unfolding drained
  drained_is_sound m workers schedule h a =
      drain_is_sound claim op (object_states m) m.book.ready workers (scheduled op (begun m) schedule) (scheduled_is_sound claim op (object_states m) m.book.ready schedule (begun m) a (new_is_sound op claim m h))

  pub played_is_sound : (m : Machine) (workers : ℕ) (schedule : List ℕ) (turns : ℕ) → IsNew op m → (claim → AsksCalls op m workers schedule turns) → SoundMachine claim op (object_states m) m.book.ready (played op m workers schedule turns).machine
  unfolding played
  played_is_sound m workers schedule turns h a =
      alone_is_sound claim op (object_states m) m.book.ready turns (drained op m workers schedule).machine (λ c. (a c).1) (drained_is_sound m workers schedule h (λ c. (a c).0))

-- ---- idle workers stay idle while others take turns

abbrev pub IdleAt : Machine → ℕ → Type 0
IdleAt m v = is_idle (m.sessions v).phase ≡ true

same_idle : (m n : Machine) (v : ℕ) → n.sessions v ≡ m.sessions v → IdleAt m v → IdleAt n v
same_idle m n v e h = ap (λ (s : Session). is_idle s.phase) e ∙ h

-- of a worker that isn't idle, another one that is idle is no part
other_is_idle : (m : Machine) (worker v : ℕ) (b : Bool) → (worker == v) ≡ b → is_idle (m.sessions worker).phase ≡ false → IdleAt m v → b ≡ false
other_is_idle m worker v true e n h = absurd (no_bool (is_idle (m.sessions v).phase) h (subst (λ w. is_idle (m.sessions w).phase ≡ false) (numbers_equal worker v e) n))
other_is_idle m worker v false e n h = refl

module _ (op : Operator) where
  step_stays : (r : Run) (worker v : ℕ) → IdleAt r.machine v → IdleAt (drain_step r worker).machine v
  step_stays r worker v h =
      let m : Machine = r.machine in
      let s : Session = m.sessions worker in
      let gone : Run = record r { machine = settled m worker (let_go (place_of m worker) worker s) } in
      let less : Run = then_turned r worker (undo (place_of m worker) worker s) in
      chosen (λ k. IdleAt k v) (is_idle s.phase) r (if has_no_step s.outcome.steps then gone else less) (λ e. h)
      (λ e.
      let n : (worker == v) ≡ false = other_is_idle m worker v (worker == v) refl e h in
      chosen (λ k. IdleAt k v) (has_no_step s.outcome.steps) gone less (λ _. same_idle m gone.machine v ((quiet_let_go op m worker s).others v n) h) (λ _. same_idle m less.machine v ((quiet_undo op m worker s).others v n) h))

  steps_stay : (n : ℕ) (r : Run) (worker v : ℕ) → IdleAt r.machine v → IdleAt (drain_steps n r worker).machine v
  steps_stay zero r worker v h = h
  steps_stay (suc n) r worker v h = steps_stay n (drain_step r worker) worker v (step_stays r worker v h)

  drain_worker_stays : (r : Run) (worker v : ℕ) → IdleAt r.machine v → IdleAt (drain_worker r worker).machine v
  unfolding drain_worker
  drain_worker_stays r worker v h = steps_stay (suc (length (r.machine.sessions worker).outcome.steps)) r worker v h

  pub drain_stays : (workers : ℕ) (r : Run) (v : ℕ) → IdleAt r.machine v → IdleAt (drain r workers).machine v
  unfolding drain
  drain_stays zero r v h = h
  drain_stays (suc worker) r v h = drain_worker_stays (drain r worker) worker v (drain_stays worker r v h)

  -- ---- each worker that is drained is idle

  -- the worker is idle, or has fewer steps than this to undo
  abbrev pub Near : ℕ → ℕ → Machine → Type 0
  Near n worker m = IdleAt m worker ⊎ (length (m.sessions worker).outcome.steps < n)

  put_is_idle : (m : Machine) (worker : ℕ) (s : Session) → is_idle (put m.sessions worker (ended s) worker).phase ≡ true
  put_is_idle m worker s = ap (λ (t : Session). is_idle t.phase) (put_same m.sessions worker (ended s))

  near_last : (n : ℕ) (m : Machine) (worker : ℕ) (s : Session) (x : Step) (b : Bool) → length (steps_before s.outcome.steps) < n
      → Near n worker (settled m worker (if b then record { gates = put m.gates x.room (undo_last (m.gates x.room) worker s.iter); book = put_back m.book worker s.iter; session = ended s }
      else record { gates = put m.gates x.room (undo_last (m.gates x.room) worker s.iter); book = m.book; session = undone_to s (steps_before s.outcome.steps) }))
  near_last n m worker s x true h = inl (put_is_idle m worker s)
  near_last n m worker s x false h = inr (subst (λ (u : Session). length u.outcome.steps < n) (sym (put_same m.sessions worker (undone_to s (steps_before s.outcome.steps)))) h)

  near_step : (n : ℕ) (m : Machine) (worker : ℕ) (s : Session) (o : Option Step) → last_step s.outcome.steps ≡ o → length s.outcome.steps < suc n → Near n worker (settled m worker (undo_step (place_of m worker) worker s o).place)
  near_step n m worker s None e h = inl (put_is_idle m worker s)
  near_step n m worker s (Some x) e h =
      let k : length s.outcome.steps ≡ suc (length (steps_before s.outcome.steps)) = fewer_before s.outcome.steps (steps_before s.outcome.steps) x (last_is_last s.outcome.steps x e) in
      near_last n m worker s x (has_no_step (steps_before s.outcome.steps)) (omega arith)

  nearer : (n : ℕ) (r : Run) (worker : ℕ) → Near (suc n) worker r.machine → Near n worker (drain_step r worker).machine
  nearer n r worker (inl h) = inl (step_stays r worker worker h)
  nearer n r worker (inr h) =
      let m : Machine = r.machine in
      let s : Session = m.sessions worker in
      let gone : Run = record r { machine = settled m worker (let_go (place_of m worker) worker s) } in
      let less : Run = then_turned r worker (undo (place_of m worker) worker s) in
      chosen (Near n worker) (is_idle s.phase) r (if has_no_step s.outcome.steps then gone else less) (λ e. inl e)
      (λ e. chosen (Near n worker) (has_no_step s.outcome.steps) gone less (λ _. inl (put_is_idle m worker s)) (λ _. near_step n m worker s (last_step s.outcome.steps) refl h))

  near_ends : (n : ℕ) (r : Run) (worker : ℕ) → Near n worker r.machine → IdleAt (drain_steps n r worker).machine worker
  near_ends zero r worker (inl h) = h
  near_ends zero r worker (inr h) = absurd (omega arith)
  near_ends (suc n) r worker h = near_ends n (drain_step r worker) worker (nearer n r worker h)

  worker_drains : (r : Run) (worker : ℕ) → IdleAt (drain_worker r worker).machine worker
  unfolding drain_worker
  worker_drains r worker = near_ends (suc (length (r.machine.sessions worker).outcome.steps)) r worker (inr (omega arith))

  drains_by : (r : Run) (worker v : ℕ) (b : Bool) → (worker == v) ≡ b → (b ≡ false → IdleAt r.machine v) → IdleAt (drain_worker r worker).machine v
  drains_by r worker v true e h = subst (λ w. IdleAt (drain_worker r worker).machine w) (numbers_equal worker v e) (worker_drains r worker)
  drains_by r worker v false e h = drain_worker_stays r worker v (h refl)

  drain_idles : (workers : ℕ) (r : Run) (v : ℕ) → v < workers → IdleAt (drain r workers).machine v
  unfolding drain
  drain_idles zero r v h = absurd (omega arith)
  drain_idles (suc worker) r v h = drains_by (drain r worker) worker v (worker == v) refl (λ e. drain_idles worker r v (below_next worker v h e))

  -- a worker that never takes a turn stays idle
  unscheduled : (schedule : List ℕ) (r : Run) (workers v : ℕ) → AllBelow schedule workers → workers ≤ v → IdleAt r.machine v → IdleAt (scheduled op r schedule).machine v
  unfolding scheduled
  unscheduled [] r workers v b l h = h
  unscheduled (worker ∷ schedule) r workers v b l h =
      let w : worker < workers = b.0 in
      let n : Run = then_turned r worker (turn_at op (place_of r.machine worker) worker) in
      chosen (λ k. IdleAt k v) (is_empty r.machine.book.ready) r (scheduled op n schedule) (λ _. h)
      (λ _. unscheduled schedule n workers v b.1 l (same_idle r.machine n.machine v ((quiet op r.machine worker).others v (apart worker v (omega arith))) h))

  below_or_not : (v workers : ℕ) → (v < workers) ⊎ (workers ≤ v)
  below_or_not v zero = inr (omega arith)
  below_or_not v (suc workers) = next (below_or_not v workers)
    where
      next : (v < workers) ⊎ (workers ≤ v) → (v < suc workers) ⊎ (suc workers ≤ v)
      next (inl h) = inl (omega arith)
      next (inr h) = at (eq-or-lt_of_le h)
        where
          at : (workers ≡ v) ⊎ (workers < v) → (v < suc workers) ⊎ (suc workers ≤ v)
          at (inl e) = inl (omega arith)
          at (inr k) = inr k

  all_drained : (r : Run) (workers v : ℕ) → ((u : ℕ) → workers ≤ u → IdleAt r.machine u) → (v < workers) ⊎ (workers ≤ v) → IdleAt (drain r workers).machine v
  all_drained r workers v h (inl k) = drain_idles workers r v k
  all_drained r workers v h (inr k) = drain_stays workers r v (h v k)

  -- after the drain all workers are idle
  pub drained_idles : (m : Machine) (workers : ℕ) (schedule : List ℕ) → IsNew op m → AllBelow schedule workers → (v : ℕ) → IdleAt (drained op m workers schedule).machine v
  unfolding drained
  drained_idles m workers schedule h b v =
      all_drained (scheduled op (begun m) schedule) workers v (λ u l. unscheduled schedule (begun m) workers u b l (ap is_idle (h.idle u))) (below_or_not v workers)

  -- ---- worker 0 alone

  -- the others are idle, and so is worker 0 unless an item is ready
  record Lone (m : Machine) : Type 0 where
    others : (v : ℕ) → (0 == v) ≡ false → IdleAt m v
    own_phase : IdleAt m 0 ⊎ (is_empty m.book.ready ≡ false)

  lone_turn : (m : Machine) → Lone m → is_empty m.book.ready ≡ false → Lone (turn op m 0)
  lone_turn m h e = record {
    others = λ v n. same_idle m (turn op m 0) v ((quiet op m 0).others v n) (h.others v n);
    own_phase = own_by (quiet op m 0).ready;
  }
    where
      own_by : ((turn op m 0).book.ready ≡ m.book.ready) ⊎ IdleAt (turn op m 0) 0 → IdleAt (turn op m 0) 0 ⊎ (is_empty (turn op m 0).book.ready ≡ false)
      own_by (inl same) = inr (ap is_empty same ∙ e)
      own_by (inr idle) = inl idle

  lone_ends_by : (m : Machine) (v : ℕ) (b : Bool) → (0 == v) ≡ b → Lone m → is_empty m.book.ready ≡ true → IdleAt m v
  lone_ends_by m v true e h k = subst (λ w. IdleAt m w) (numbers_equal 0 v e) (own_by h.own_phase)
    where
      own_by : IdleAt m 0 ⊎ (is_empty m.book.ready ≡ false) → IdleAt m 0
      own_by (inl idle) = idle
      own_by (inr n) = absurd (no_bool (is_empty m.book.ready) k n)
  lone_ends_by m v false e h k = h.others v e

  abbrev IdlesIfEmpty : ℕ → Machine → Type 0
  IdlesIfEmpty v m = is_empty m.book.ready ≡ true → IdleAt m v

  lone_idles : (n : ℕ) (m : Machine) (v : ℕ) → Lone m → IdlesIfEmpty v (lone_run op m n)
  unfolding lone_run
  lone_idles zero m v h = λ e. lone_ends_by m v (0 == v) refl h e
  lone_idles (suc n) m v h =
      chosen_machine (IdlesIfEmpty v) (is_empty m.book.ready) m (lone_run op (turn op m 0) n) (λ k e. lone_ends_by m v (0 == v) refl h e) (λ k. lone_idles n (turn op m 0) v (lone_turn m h k))

  -- a run that ends with nothing ready ends with all workers idle
  pub played_idles : (m : Machine) (workers : ℕ) (schedule : List ℕ) (turns v : ℕ) → IsNew op m → AllBelow schedule workers → is_empty (played op m workers schedule turns).machine.book.ready ≡ true
      → IdleAt (played op m workers schedule turns).machine v
  unfolding played
  played_idles m workers schedule turns v h b e =
      let idle : (v : ℕ) → IdleAt (drained op m workers schedule).machine v = drained_idles m workers schedule h b in
      lone_idles turns (drained op m workers schedule).machine v (record { others = λ v n. idle v; own_phase = inl (idle 0) }) e
