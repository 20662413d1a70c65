-- The first entry whose row is false by what it logged is the first that is in the way, for a screen that finds the place of
-- the one.
use Rattle.std.specs.Prelude.{◌≡◌, ℕ, zero, suc, ◌<◌, ◌≤◌, pos, Bool, true, false, not, cond, Option, Some, None, List, [], ◌∷◌, length, take, position, nat_lt, refl}
use Rattle.std.proofs.Common.{sym, arith, get_or}
use Rattle.std.proofs.lemmas.Bool.Decides.{nat_tests}
use Rattle.std.proofs.lemmas.List.Quantifiers.{position-Some}
use Rattle.std.proofs.lemmas.List.Sums.{fails_before_first}
use Rattle.std.specs.List.{position_or_len}
use Rattle.gx_base.specs.States.{State}
use Rattle.gx_base.specs.Tables.{Rows}
use Rattle.gx_base.specs.declared.acts.Entry.{Entry}
use Rattle.gate_core.specs.Entries.{Each}
use Rattle.gate_core.specs.Replays.{AllSawRight, IsFirstFailing}
use Rattle.gate_core.specs.Scans.{SeesFirstAlone, log_ok}
use Rattle.gate_core.proofs.scans.ScanLemmas.{found, all_passed}

true_of : (b : Bool) → not b ≡ false → b ≡ true
true_of true e = refl
true_of false e = absurd (cc)

false_of : (b : Bool) → not b ≡ true → b ≡ false
false_of true e = absurd (cc)
false_of false e = refl

past_all : (place count : ℕ) (b : Bool) → nat_lt place count ≡ b → cond b (Some place) None ≡ None → count ≤ place
past_all place count true e n = absurd (cc)
past_all place count false e n = grind (arith, nat_tests)

module _ (rows : Rows) (alone : SeesFirstAlone rows) (asked : Entry) where
  -- the row of the entry is false, by what it logged
  abbrev pub fails : Entry → Bool
  fails held = not (log_ok rows held asked)

  passed_before : (es : List Entry) (i : ℕ) → ((k : ℕ) (d : Entry) → k < i → fails (get_or es k d) ≡ false) → i ≤ length es → Each (λ e. log_ok rows e asked ≡ true) (take i es)
  passed_before [] zero h n = tt
  passed_before [] (suc i) h n = tt
  passed_before (e ∷ es) zero h n = tt
  passed_before (e ∷ es) (suc i) h n = (true_of _ (h 0 e (omega arith)), passed_before es i (λ k d lt. h (suc k) d (omega arith)) (omega arith))

  pub first_found : (s : State) (es : List Entry) (i : ℕ) (d : Entry) → Some i ≡ position fails es → AllSawRight rows s es → IsFirstFailing rows s es asked (Some (i, record { first = (get_or es i d).seen; second = pos 0 }))
  first_found s es i d at w =
      let p : (i < length es) × (fails (get_or es i d) ≡ true) × ((k : ℕ) → k < i → fails (get_or es k d) ≡ false) = position-Some fails es i d (sym at) in
      found rows alone asked s es i d p.0 (passed_before es i (λ k x lt. (position-Some fails es i x (sym at)).2 k lt) (omega (arith, p.0))) (false_of _ p.1) w

  pub none_found : (s : State) (es : List Entry) → None ≡ position fails es → AllSawRight rows s es → IsFirstFailing rows s es asked None
  none_found s es at w =
      let past : length es ≤ position_or_len fails es = past_all (position_or_len fails es) (length es) (nat_lt (position_or_len fails es) (length es)) refl (sym at) in
      all_passed rows alone asked s es (length es) (omega arith) (passed_before es (length es) (λ k d lt. fails_before_first fails es k d (omega (arith, past, lt))) (omega arith)) w
