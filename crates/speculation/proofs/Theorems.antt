-- What every run of the speculative machine gives.
use Rattle.std.specs.Prelude.{◌≡◌, ℕ, length, true, List, [], ⊤, refl}
use Rattle.std.proofs.Common.{subst, arith}
use Rattle.gx_base.specs.Plans.{Operator}
use Rattle.gx_base.specs.SerialRuns.{IsSerialRun}
use Rattle.gate_core.specs.Replays.{start_of}
use Rattle.speculation.specs.Machines.{Machine}
use Rattle.speculation.specs.ScheduledRuns.{is_empty, begun, scheduled, drained, played, AllBelow}
use Rattle.speculation.specs.Premises.{IsNew, ScheduledAsk, AsksCalls}
use Rattle.speculation.specs.RunResults.{object_states, end_in, IsSerialInTheEnd, EndsOrCommits, HasNoTraceOfAborted}
use Rattle.speculation.proofs.Sound.{SoundMachine}
use Rattle.speculation.proofs.SoundIsSerial.{sound_is_serial, idle_is_clear, sound_has_no_trace, new_is_sound}
use Rattle.speculation.proofs.Runs.{scheduled_is_sound, drained_is_sound, played_is_sound, drained_idles, played_idles}
use Rattle.speculation.proofs.Tidy.{IsTidy, tidy_scheduled, tidy_drain, new_is_tidy}
use Rattle.speculation.proofs.Lone.{lone_ends}

module _ (op : Operator) where
  pub runs_are_serial : (m : Machine) (workers : ℕ) (schedule : List ℕ) (turns : ℕ) → IsNew op m → AllBelow schedule workers → AsksCalls op m workers schedule turns → IsSerialInTheEnd op m (played op m workers schedule turns).machine
  runs_are_serial m workers schedule turns h b a =
      let after : Machine = (played op m workers schedule turns).machine in
      let sound : SoundMachine ⊤ op (object_states m) m.book.ready after = played_is_sound ⊤ op m workers schedule turns h (λ _. a) in
      let clear : is_empty after.book.ready ≡ true → (room : ℕ) → (after.gates room).live ≡ [] = λ e. idle_is_clear op (object_states m) m.book.ready after sound (λ worker. played_idles op m workers schedule turns worker h b e) in
      record {
        run = sound_is_serial op (object_states m) m.book.ready after sound;
        past = λ room. (sound.gates tt room).past;
        none_live = clear;
        whole = λ e. subst (λ states. IsSerialRun op (object_states m) m.book.ready after.book.commits (end_in after states)) (λ i room. start_of (after.gates room).state (clear e room i)) (sound_is_serial op (object_states m) m.book.ready after sound);
      }

  pub scheduled_has_no_trace : (m : Machine) (schedule : List ℕ) → IsNew op m → ScheduledAsk op (begun m) schedule → HasNoTraceOfAborted m (scheduled op (begun m) schedule).machine
  scheduled_has_no_trace m schedule h a =
      sound_has_no_trace op m.book.ready m (scheduled op (begun m) schedule).machine (scheduled_is_sound ⊤ op (object_states m) m.book.ready schedule (begun m) (λ _. a) (new_is_sound op ⊤ m h))

  pub played_has_no_trace : (m : Machine) (workers : ℕ) (schedule : List ℕ) (turns : ℕ) → IsNew op m → AsksCalls op m workers schedule turns → HasNoTraceOfAborted m (played op m workers schedule turns).machine
  played_has_no_trace m workers schedule turns h a = sound_has_no_trace op m.book.ready m (played op m workers schedule turns).machine (played_is_sound ⊤ op m workers schedule turns h (λ _. a))

  drained_is_tidy : (m : Machine) (workers : ℕ) (schedule : List ℕ) → IsNew op m → IsTidy (drained op m workers schedule).machine
  unfolding drained
  drained_is_tidy m workers schedule h = tidy_drain op workers (scheduled op (begun m) schedule) (tidy_scheduled op schedule (begun m) (new_is_tidy op m h))

  -- worker 0 alone empties the ready set, or commits any number of items
  pub runs_end : (m : Machine) (workers : ℕ) (schedule : List ℕ) (count : ℕ) → IsNew op m → AllBelow schedule workers → EndsOrCommits count op m workers schedule
  unfolding played
  runs_end m workers schedule count h b =
      let last : Machine = (drained op m workers schedule).machine in
      lone_ends op (object_states m) m.book.ready count count last (length last.book.commits) (drained_is_sound ⊥ op m workers schedule h (λ none. absurd none)) (drained_is_tidy m workers schedule h)
      (record { idle = drained_idles op m workers schedule h b; commits = refl }) (omega arith)
