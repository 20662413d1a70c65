-- A scan of the live entries by what they saw finds the first that is in the way.
use Rattle.std.specs.Prelude.{◌≡◌, ℕ, ◌+◌, ◌<◌, ◌≤◌, pos, Bool, true, false, ◌||◌, Some, None, List, [], ◌∷◌, ◌++◌, length, take, drop, refl, if◌then◌else◌}
use Rattle.std.proofs.Common.{zero, suc, sym, ◌∙◌, ap, subst, arith, get_or, length-take}
use Rattle.gx_base.specs.declared.conditions.Side.TheVariants.{First, Second}
use Rattle.gx_base.specs.Below.{names_state}
use Rattle.gx_base.specs.States.{State}
use Rattle.gx_base.specs.Steps.{next_state}
use Rattle.gx_base.specs.Tables.{Rows}
use Rattle.gx_base.specs.declared.acts.Entry.{Entry}
use Rattle.gate_core.specs.Entries.{Each, made_of, same_iteration}
use Rattle.gate_core.specs.Replays.{after, seen_at, pair_ok, SawRight, AllSawRight, further, first_failing, SeesRight, IsFirstFailing}
use Rattle.gate_core.specs.Scans.{SeesFirstAlone, log_ok}
use Rattle.gate_core.proofs.lists.EntryLists.{some_same}
use Rattle.gate_core.proofs.replays.StateTerms.{named_same, named_used}
use Rattle.gate_core.proofs.lists.Walking.{get_at, parted_at}

pub saw_front : (rows : Rows) (s : State) (xs ys : List Entry) → AllSawRight rows s (xs ++ ys) → AllSawRight rows s xs
saw_front rows s [] ys h = tt
saw_front rows s (x ∷ xs) ys h = (h.0, saw_front rows (next_state s x.call) xs ys h.1)

module _ (rows : Rows) (alone : SeesFirstAlone rows) (asked : Entry) where
  -- what the log says is right, as far as the row uses it
  sees_right : (s : State) (held : Entry) → SawRight rows s held → SeesRight (rows held.call.method asked.call.method) s held asked (record { first = held.seen; second = pos 0 })
  sees_right s held h = record {
    first = λ named. h (asked.call.method, named_used First (rows held.call.method asked.call.method) named);
    second = λ named. absurd (let n : names_state Second (rows held.call.method asked.call.method) ≡ false = alone held.call.method asked.call.method in cc);
  }

  log_same : (s : State) (held : Entry) → SawRight rows s held → log_ok rows held asked ≡ pair_ok rows s held asked
  log_same s held h =
      let r : SeesRight (rows held.call.method asked.call.method) s held asked (record { first = held.seen; second = pos 0 }) = sees_right s held h in
      ap (λ b. same_iteration held asked || b)
      (named_same (made_of held) (made_of asked) (record { first = held.seen; second = pos 0 }) (seen_at s held asked) (rows held.call.method asked.call.method) (record { first_same = r.first; second_same = r.second }))

  -- the scan so far, and the entry after it
  passed : (s : State) (es fs : List Entry) → AllSawRight rows s (es ++ fs) → Each (λ e. log_ok rows e asked ≡ true) es → AllSawRight rows (after s es) fs
  passed s [] fs h p = h
  passed s (e ∷ es) fs h p = passed (next_state s e.call) es fs h.1 p.1

  none_failing : (s : State) (es : List Entry) → AllSawRight rows s es → Each (λ e. log_ok rows e asked ≡ true) es → first_failing rows s es asked ≡ None
  none_failing s [] h p = refl
  none_failing s (e ∷ es) h p =
      ap (λ (b : Bool). if b then further (first_failing rows (next_state s e.call) es asked) else Some 0) (sym (log_same s e h.0) ∙ p.0) ∙ ap further (none_failing (next_state s e.call) es h.1 p.1)

  first_after : (s : State) (es fs : List Entry) (held : Entry) → AllSawRight rows s (es ++ held ∷ fs) → Each (λ e. log_ok rows e asked ≡ true) es → log_ok rows held asked ≡ false → first_failing rows s (es ++ held ∷ fs) asked ≡ Some (length es)
  first_after s [] fs held h p f = ap (λ (b : Bool). if b then further (first_failing rows (next_state s held.call) fs asked) else Some 0) (sym (log_same s held h.0) ∙ f)
  first_after s (e ∷ es) fs held h p f =
      let n : length es + 1 ≡ suc (length es) = omega arith in
      ap (λ (b : Bool). if b then further (first_failing rows (next_state s e.call) (es ++ held ∷ fs) asked) else Some 0) (sym (log_same s e h.0) ∙ p.0)
      ∙ ap further (first_after (next_state s e.call) es fs held h.1 p.1 f) ∙ ap (λ k. Some k) n

  -- the scan stops at a place
  pub found : (s : State) (es : List Entry) (i : ℕ) (d : Entry) → i < length es → Each (λ e. log_ok rows e asked ≡ true) (take i es) → log_ok rows (get_or es i d) asked ≡ false → AllSawRight rows s es
      → IsFirstFailing rows s es asked (Some (i, record { first = (get_or es i d).seen; second = pos 0 }))
  found s es i d h p f w =
      let x : Entry = get_or es i d in
      let whole : take i es ++ x ∷ drop (i + 1) es ≡ es = parted_at es i d h in
      let seen : AllSawRight rows s (take i es ++ x ∷ drop (i + 1) es) = subst (λ xs. AllSawRight rows s xs) (sym whole) w in
      let len : length (take i es) ≡ i = omega (arith, length-take {A = Entry}) in
      let there : AllSawRight rows (after s (take i es)) (x ∷ drop (i + 1) es) = passed s (take i es) (x ∷ drop (i + 1) es) seen p in (
        ap (λ xs. first_failing rows s xs asked) (sym whole) ∙ first_after s (take i es) (drop (i + 1) es) x seen p f ∙ ap (λ k. Some k) len,
        λ held at. subst (λ (y : Entry). SeesRight (rows y.call.method asked.call.method) (after s (take i es)) y asked (record { first = x.seen; second = pos 0 })) (some_same (sym (get_at es i d h) ∙ at)) (sees_right (after s (take i es)) x there.0),
      )

  pub all_passed : (s : State) (es : List Entry) (i : ℕ) → length es ≤ i → Each (λ e. log_ok rows e asked ≡ true) (take i es) → AllSawRight rows s es → IsFirstFailing rows s es asked None
  all_passed s es i n p w = none_failing s es w (subst (λ xs. Each (λ e. log_ok rows e asked ≡ true) xs) (take_all es i n) p)
    where
      take_all : (es : List Entry) (i : ℕ) → length es ≤ i → take i es ≡ es
      take_all [] zero n = refl
      take_all [] (suc i) n = refl
      take_all (e ∷ es) zero n = absurd (omega arith)
      take_all (e ∷ es) (suc i) n = ap (λ xs. e ∷ xs) (take_all es i (omega arith))
