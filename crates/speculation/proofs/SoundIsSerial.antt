-- A sound machine's commits are a serial run, and of an aborted iteration it has no trace.
use Rattle.std.specs.Prelude.{◌≡◌, ℕ, ◌≤◌, length, Bool, true, false, List, [], ◌∷◌, ◌++◌, ⊤, refl}
use Rattle.std.proofs.Common.{sym, ◌∙◌, ap, subst, arith}
use Rattle.gx_base.specs.declared.items.Item.{Item}
use Rattle.gx_base.specs.declared.acts.Entry.{Entry}
use Rattle.gx_base.specs.declared.acts.Step.{Step}
use Rattle.gx_base.specs.declared.calls.Made.{Made}
use Rattle.gx_base.specs.States.{State}
use Rattle.gx_base.specs.Plans.{Operator}
use Rattle.gx_base.specs.Outcomes.{Outcome, nothing_done, journal}
use Rattle.gx_base.specs.Replays.{part, Legal}
use Rattle.gx_base.specs.SerialRuns.{IsSerialRun, AreInTurn, AreRunsOf}
use Rattle.gx_base.proofs.CallerLemmas.{Replays-merged, IsSerialRun-runs}
use Rattle.gate_core.specs.Entries.{Each, mades_of, entries_of, mark_of}
use Rattle.gate_core.specs.Replays.{start_of}
use Rattle.gate_core.specs.Views.{GateView, live_start}
use Rattle.gate_core.proofs.lawful.GateLaws.{replayed}
use Rattle.speculation.specs.Sessions.{Session, Phase, Idle, Running, Finished, Undoing, is_idle}
use Rattle.speculation.specs.Machines.{Machine}
use Rattle.speculation.specs.Premises.{IsNewGate, IsNew}
use Rattle.speculation.specs.RunResults.{object_states, committed_states, end_in, IsOfLiveIteration, HasNoTraceOfAborted}
use Rattle.speculation.proofs.Putting.{same_number}
use Rattle.speculation.proofs.IterationEntries.{IsCurrent, none_first, nobody, no_mades}
use Rattle.speculation.proofs.Sound.{SoundGate, SoundLog, SoundPhase, SoundMachine}

module _ (op : Operator) where
  past_replays : (first : State) (room : ℕ) (steps : List Step) (g : GateView) → SoundGate first room steps g → Legal first (part room steps) (live_start g)
  past_replays first room steps g h = subst (λ (ms : List Made). Legal first ms (live_start g)) h.past (subst (λ s. Legal s (mades_of g.done) (live_start g)) h.begun h.lawful.done_legal)

  pub sound_is_serial : (starts : ℕ → State) (first : List Item) (m : Machine) → SoundMachine ⊤ op starts first m → IsSerialRun op starts first m.book.commits (end_in m (committed_states m))
  sound_is_serial starts first m h =
      IsSerialRun-runs op starts (committed_states m) first m.book.ready m.book.commits h.book.in_turn h.book.runs
      (Replays-merged starts (committed_states m) (journal m.book.commits) (λ room. past_replays (starts room) room (journal m.book.commits) (m.gates room) (h.gates tt room)))

  -- ---- idle workers

  pub idle_steps : (item : Item) (o : Outcome) (p : Phase) → is_idle p ≡ true → SoundPhase op item o p → o.steps ≡ []
  idle_steps item o Idle e h = h
  idle_steps item o (Running plan) e h = absurd (cc)
  idle_steps item o Finished e h = absurd (cc)
  idle_steps item o Undoing e h = absurd (cc)

  pub idle_entries : (claim : Type 0) (starts : ℕ → State) (first : List Item) (m : Machine) (room worker : ℕ) → SoundMachine claim op starts first m → is_idle (m.sessions worker).phase ≡ true → entries_of worker (m.sessions worker).iter (m.gates room).live ≡ []
  idle_entries claim starts first m room worker h i =
      no_mades (entries_of worker (m.sessions worker).iter (m.gates room).live)
      ((h.logs room worker).entries ∙ ap (part room) (idle_steps (m.sessions worker).item (m.sessions worker).outcome (m.sessions worker).phase i (h.sessions worker)))

  -- where all workers are idle, no gate has an uncommitted entry
  pub idle_is_clear : (starts : ℕ → State) (first : List Item) (m : Machine) → SoundMachine ⊤ op starts first m → ((worker : ℕ) → is_idle (m.sessions worker).phase ≡ true) → (room : ℕ) → (m.gates room).live ≡ []
  idle_is_clear starts first m h i room =
      nobody (λ worker. (m.sessions worker).iter) (λ worker. (m.sessions worker).item) (m.gates room).live (λ worker. (h.logs room worker).current) (λ worker. idle_entries ⊤ starts first m room worker h (i worker))

  -- ---- entries of live iterations

  not_idle : (b : Bool) → (b ≡ true → ⊥) → b ≡ false
  not_idle true n = absurd (n refl)
  not_idle false n = refl

  are_live : (sessions : ℕ → Session) (es : List Entry) → ((worker : ℕ) → Each (IsCurrent worker (sessions worker).iter (sessions worker).item) es)
      → ((worker : ℕ) → is_idle (sessions worker).phase ≡ true → entries_of worker (sessions worker).iter es ≡ []) → Each (IsOfLiveIteration sessions) es
  are_live sessions [] c n = tt
  are_live sessions (e ∷ es) c n =
      let w : ℕ = e.worker in
      let own : (e.iter ≡ (sessions w).iter) × (e.item ≡ (sessions w).item) = (c w).0 (same_number w) in (
        record {
          live = not_idle (is_idle (sessions w).phase) (λ i. (none_first w (sessions w).iter (sessions w).item e es (c w).0 (n w i)).0 (same_number w));
          iter = own.0;
          item = own.1;
        },
        are_live sessions es (λ v. (c v).1) (λ v i. (none_first v (sessions v).iter (sessions v).item e es (c v).0 (n v i)).1),
      )

  pub sound_has_no_trace : (first : List Item) (before m : Machine) → SoundMachine ⊤ op (object_states before) first m → HasNoTraceOfAborted before m
  sound_has_no_trace first before m h = record {
    replayed = λ room. subst (λ s. Legal s (mades_of ((m.gates room).done ++ (m.gates room).live)) (m.gates room).state) (h.gates tt room).begun (replayed (m.gates room) (h.gates tt room).lawful);
    committed = λ room. (h.gates tt room).past;
    uncommitted = λ room. are_live m.sessions (m.gates room).live (λ worker. (h.logs room worker).current) (λ worker i. idle_entries ⊤ (object_states before) first m room worker h i);
  }

  -- ---- a new machine is sound

  new_gate_sound : (room : ℕ) (g : GateView) → IsNewGate g → SoundGate g.state room [] g
  new_gate_sound room g h = record {
    lawful = h.lawful;
    begun = ap (λ done. start_of (start_of g.state g.live) done) h.no_done ∙ ap (λ live. start_of g.state live) h.no_live;
    past = ap mades_of h.no_done;
  }

  new_log : (room worker iter : ℕ) (item : Item) (o : Outcome) (live : List Entry) → live ≡ [] → o ≡ nothing_done → SoundLog room worker iter item o.steps live
  new_log room worker iter item o live e n =
      subst (λ es. SoundLog room worker iter item o.steps es) (sym e) (record { current = tt; entries = ap (λ (x : Outcome). part room x.steps) (sym n) })

  no_mark : (g : GateView) → IsNewGate g → g.mark ≡ 0
  no_mark g h = h.lawful.mark ∙ ap (λ done. mark_of 0 done) h.no_done

  pub new_is_sound : (claim : Type 0) (m : Machine) → IsNew op m → SoundMachine claim op (object_states m) m.book.ready m
  new_is_sound claim m h = record {
    gates = λ _ room. subst (λ cs. SoundGate (m.gates room).state room (journal cs) (m.gates room)) (sym h.no_commits) (new_gate_sound room (m.gates room) (h.gates room));
    logs = λ room worker. new_log room worker (m.sessions worker).iter (m.sessions worker).item (m.sessions worker).outcome (m.gates room).live (h.gates room).no_live (h.nothing_done worker);
    sessions = λ worker. subst (λ p. SoundPhase op (m.sessions worker).item (m.sessions worker).outcome p) (sym (h.idle worker)) (ap (λ (x : Outcome). x.steps) (h.nothing_done worker));
    book = record {
      ordered = h.ordered;
      in_turn = subst (λ cs. AreInTurn op.ordered m.book.ready cs m.book.ready) (sym h.no_commits) refl;
      runs = subst (λ cs. AreRunsOf op cs) (sym h.no_commits) tt;
    };
    marks = λ room. subst (λ mark. mark ≤ length m.book.commits) (sym (no_mark (m.gates room) (h.gates room))) (omega arith);
  }
