-- What a turn does to one gate, and to the steps of each worker in it.
use Rattle.std.specs.Prelude.{◌≡◌, ℕ, suc, ◌+◌, ◌≤◌, Bool, true, false, ◌&&◌, ◌==◌, if◌then◌else◌, Option, Some, None, List, [], ◌∷◌, ◌++◌, refl}
use Rattle.std.proofs.Common.{sym, ◌∙◌, ap, arith}
use Rattle.std.proofs.lemmas.List.{append-nil}
use Rattle.gx_base.specs.declared.calls.Call.{Call}
use Rattle.gx_base.specs.declared.calls.Made.{Made}
use Rattle.gx_base.specs.declared.items.Item.{Item}
use Rattle.gx_base.specs.declared.acts.Entry.{Entry}
use Rattle.gx_base.specs.declared.acts.Step.{Step}
use Rattle.gx_base.specs.States.{State}
use Rattle.gx_base.specs.Meanings.{IsCall}
use Rattle.gx_base.specs.Steps.{reply_to}
use Rattle.gx_base.specs.Replays.{part, made_by}
use Rattle.gx_base.proofs.CallerLemmas.{part-append}
use Rattle.gate_core.specs.Entries.{made_of, mades_of, is_of, entries_of, has_entry, last_of, without_last, done_under}
use Rattle.gate_core.specs.Views.{GateView, asked_entry, in_way, admit, undo_entry, undo_last, release}
use Rattle.gate_core.proofs.CallerLemmas.{mades_of-append, mades_of-under, each_append, each_filter, each_without}
use Rattle.gate_core.proofs.lawful.KeptLawful.{Kept, admit_keeps, undo_keeps, release_keeps}
use Rattle.speculation.proofs.Putting.{no_bool, same_number}
use Rattle.speculation.proofs.IterationEntries.{IsCurrent, of_append, of_one, of_none, of_others, others_leave, without_leaves, absent, LastFits, last_fits}
use Rattle.speculation.proofs.Steps.{same_front, not_empty}
use Rattle.speculation.proofs.Sound.{SoundGate, SoundLog}

-- ---- the gate

module _ (first : State) (room : ℕ) (steps : List Step) where
  pub gate_admits : (g : GateView) (worker iter : ℕ) (item : Item) (call : Call) → SoundGate first room steps g → IsCall call → in_way g (asked_entry worker iter item call g.state) ≡ None
      → SoundGate first room steps (admit g worker iter item call)
  gate_admits g worker iter item call h c n =
      let k : Kept g (admit g worker iter item call) = admit_keeps g worker iter item call h.lawful c n in
      record { lawful = k.lawful; begun = k.same_start ∙ h.begun; past = h.past }

  same_done : (g : GateView) (worker iter : ℕ) (o : Option Entry) → (undo_entry g worker iter o).done ≡ g.done
  same_done g worker iter None = refl
  same_done g worker iter (Some u) = refl

  pub gate_undoes : (g : GateView) (worker iter : ℕ) → SoundGate first room steps g → SoundGate first room steps (undo_last g worker iter)
  gate_undoes g worker iter h =
      let k : Kept g (undo_last g worker iter) = undo_keeps g worker iter h.lawful in
      record { lawful = k.lawful; begun = k.same_start ∙ h.begun; past = ap mades_of (same_done g worker iter (last_of worker iter g.live)) ∙ h.past }

  -- the released entries are the next steps of the journal in this room
  pub gate_releases : (g : GateView) (worker iter number : ℕ) (log : List Step) → SoundGate first room steps g → g.mark ≤ number → mades_of (entries_of worker iter g.live) ≡ part room log
      → SoundGate first room (steps ++ log) (release g worker iter number)
  gate_releases g worker iter number log h low l =
      let ms : List Entry = entries_of worker iter g.live in
      let k : Kept g (release g worker iter number) = release_keeps g worker iter number h.lawful low in
      record {
        lawful = k.lawful;
        begun = k.same_start ∙ h.begun;
        past =
            mades_of-append g.done (done_under number ms) ∙ ap (λ xs. mades_of g.done ++ xs) (mades_of-under number ms ∙ l) ∙ ap (λ xs. xs ++ part room log) h.past
            ∙ sym (part-append room steps log);
      }

undo_marks_by : (g : GateView) (worker iter : ℕ) (o : Option Entry) → (undo_entry g worker iter o).mark ≡ g.mark
undo_marks_by g worker iter None = refl
undo_marks_by g worker iter (Some u) = refl

pub undo_marks : (g : GateView) (worker iter : ℕ) → (undo_last g worker iter).mark ≡ g.mark
undo_marks g worker iter = undo_marks_by g worker iter (last_of worker iter g.live)

mark_below_by : (mark count : ℕ) (b : Bool) → mark ≤ count → (if b then count + 1 else mark) ≤ suc count
mark_below_by mark count true h = omega arith
mark_below_by mark count false h = omega arith

-- a release under the number of commits leaves a mark of at most one more
pub release_marks : (g : GateView) (worker iter count : ℕ) → g.mark ≤ count → (release g worker iter count).mark ≤ suc count
release_marks g worker iter count h = mark_below_by g.mark count (has_entry worker iter g.live) h

-- ---- the steps of the worker whose turn it is, and of another

pub part_own : (x : Step) → part x.room (x ∷ []) ≡ made_by x ∷ []
part_own x = ap (λ (b : Bool). if b then made_by x ∷ [] else []) (same_number x.room)

pub part_other : (x : Step) (room : ℕ) → (x.room == room) ≡ false → part room (x ∷ []) ≡ []
part_other x room e = ap (λ (b : Bool). if b then made_by x ∷ [] else []) e

own_part : (x : Step) (log : List Step) → part x.room (log ++ x ∷ []) ≡ part x.room log ++ made_by x ∷ []
own_part x log = part-append x.room log (x ∷ []) ∙ ap (λ (ms : List Made). part x.room log ++ ms) (part_own x)

other_part : (x : Step) (room : ℕ) (log : List Step) → (x.room == room) ≡ false → part room (log ++ x ∷ []) ≡ part room log
other_part x room log n = part-append room log (x ∷ []) ∙ ap (λ (ms : List Made). part room log ++ ms) (part_other x room n) ∙ append-nil (part room log)

asked_is_of : (worker iter : ℕ) (item : Item) (call : Call) (s : State) → is_of worker iter (asked_entry worker iter item call s) ≡ true
asked_is_of worker iter item call s = λ i. same_number worker i && same_number iter i

module _ (worker iter : ℕ) (item : Item) where
  pub log_admits : (g : GateView) (room : ℕ) (call : Call) (log : List Step) → SoundLog room worker iter item log g.live
      → SoundLog room worker iter item (log ++ record { room = room; call = call; reply = reply_to g.state call } ∷ []) (admit g worker iter item call).live
  log_admits g room call log h =
      let e : Entry = asked_entry worker iter item call g.state in
      let x : Step = record { room = room; call = call; reply = reply_to g.state call } in
      record {
        current = each_append (IsCurrent worker iter item) g.live (e ∷ []) h.current (λ w. (refl, refl), tt);
        entries =
            ap mades_of (of_append worker iter g.live (e ∷ [])) ∙ mades_of-append (entries_of worker iter g.live) (entries_of worker iter (e ∷ []))
            ∙ ap (λ (ms : List Entry). mades_of (entries_of worker iter g.live) ++ mades_of ms) (of_one worker iter e (asked_is_of worker iter item call g.state))
            ∙ ap (λ (ms : List Made). ms ++ made_of e ∷ []) h.entries ∙ sym (own_part x log);
      }

  pub log_admits_other : (g : GateView) (room v j : ℕ) (other : Item) (call : Call) (log : List Step) → (worker == v) ≡ false → SoundLog room v j other log g.live → SoundLog room v j other log (admit g worker iter item call).live
  log_admits_other g room v j other call log n h =
      let e : Entry = asked_entry worker iter item call g.state in
      let not_of : is_of v j e ≡ false = ap (λ (b : Bool). b && (iter == j)) n in
      record {
        current = each_append (IsCurrent v j other) g.live (e ∷ []) h.current ((λ w. absurd (no_bool (worker == v) w n)), tt);
        entries =
            ap mades_of (of_append v j g.live (e ∷ [])) ∙ ap (λ (ms : List Entry). mades_of (entries_of v j g.live ++ ms)) (of_none v j e not_of)
            ∙ ap mades_of (append-nil (entries_of v j g.live)) ∙ h.entries;
      }

  -- a step in another room
  pub log_elsewhere : (x : Step) (room : ℕ) (log : List Step) (live : List Entry) → (x.room == room) ≡ false → SoundLog room worker iter item log live → SoundLog room worker iter item (log ++ x ∷ []) live
  log_elsewhere x room log live n h = record { current = h.current; entries = h.entries ∙ sym (other_part x room log n) }

  pub log_back_elsewhere : (x : Step) (room : ℕ) (log : List Step) (live : List Entry) → (x.room == room) ≡ false → SoundLog room worker iter item (log ++ x ∷ []) live → SoundLog room worker iter item log live
  log_back_elsewhere x room log live n h = record { current = h.current; entries = h.entries ∙ other_part x room log n }

  log_undoes_by : (g : GateView) (log : List Step) (x : Step) (o : Option Entry) → LastFits worker iter g.live o (without_last worker iter g.live) → SoundLog x.room worker iter item (log ++ x ∷ []) g.live
      → SoundLog x.room worker iter item log (undo_entry g worker iter o).live
  log_undoes_by g log x None f h = absurd (not_empty (part x.room log) (made_by x) (sym (h.entries ∙ own_part x log) ∙ ap mades_of (absent worker iter g.live (f.none refl))))
  log_undoes_by g log x (Some u) f h = record {
    current = each_without (IsCurrent worker iter item) worker iter g.live h.current;
    entries = same_front (mades_of (entries_of worker iter (without_last worker iter g.live))) (part x.room log) (made_of u) (made_by x) (sym (f.some u refl) ∙ h.entries ∙ own_part x log);
  }

  pub log_undoes : (g : GateView) (log : List Step) (x : Step) → SoundLog x.room worker iter item (log ++ x ∷ []) g.live → SoundLog x.room worker iter item log (undo_last g worker iter).live
  log_undoes g log x h = log_undoes_by g log x (last_of worker iter g.live) (last_fits worker iter g.live) h

  pub log_releases : (g : GateView) (number room : ℕ) (log : List Step) → SoundLog room worker iter item log g.live → SoundLog room worker iter item [] (release g worker iter number).live
  log_releases g number room log h = record {
    current = each_filter (IsCurrent worker iter item) _ g.live h.current;
    entries = ap mades_of (of_others worker iter g.live);
  }

module _ (worker iter room v j : ℕ) (other : Item) (apart : (worker == v) ≡ false) where
  log_undoes_other_by : (g : GateView) (log : List Step) (o : Option Entry) → SoundLog room v j other log g.live → SoundLog room v j other log (undo_entry g worker iter o).live
  log_undoes_other_by g log None h = h
  log_undoes_other_by g log (Some u) h = record {
    current = each_without (IsCurrent v j other) worker iter g.live h.current;
    entries = ap mades_of (without_leaves worker iter v j apart g.live) ∙ h.entries;
  }

  pub log_undoes_other : (g : GateView) (log : List Step) → SoundLog room v j other log g.live → SoundLog room v j other log (undo_last g worker iter).live
  log_undoes_other g log h = log_undoes_other_by g log (last_of worker iter g.live) h

  pub log_releases_other : (g : GateView) (number : ℕ) (log : List Step) → SoundLog room v j other log g.live → SoundLog room v j other log (release g worker iter number).live
  log_releases_other g number log h = record {
    current = each_filter (IsCurrent v j other) _ g.live h.current;
    entries = ap mades_of (others_leave worker iter v j apart g.live) ∙ h.entries;
  }
