-- What bringing a number in, or taking it out, makes of a state.
use mathlib.Core.Bool.{beq}
use Rattle.std.specs.Prelude.{◌≡◌, ℤ, pos, Bool, true, false, not, Option, Some, None, List, [], ◌∷◌, is_some, if◌then◌else◌, refl}
use Rattle.std.proofs.Common.{sym, ◌∙◌, ap}
use Rattle.gx_base.specs.Meanings.{number_reply}
use Rattle.gx_base.specs.RowActions.{action_next, action_reply, same_content}
use Rattle.gx_base.specs.SetKind.{IsMark}
use Rattle.gx_base.specs.States.{State, row_at, with_row}
use Rattle.shared_sets.specs.SetRows.{row_if}
use Rattle.shared_sets.specs.SetState.{turn_to}

pub differ : (here there : Bool) → beq here there ≡ false → here ≡ there → ⊥
differ true true n e = cc
differ true false n e = cc
differ false true n e = cc
differ false false n e = cc

absent : (o : Option (List ℤ)) → (is_some o ≡ true → ⊥) → same_content o None ≡ true
absent None n = refl
absent (Some xs) n = absurd (n refl)

present : (o : Option (List ℤ)) → IsMark o → (is_some o ≡ false → ⊥) → same_content o (Some []) ≡ true
present None m n = absurd (n refl)
present (Some []) m n = refl
present (Some (x ∷ xs)) m n = absurd m

module _ (s : State) (x : ℤ) (mark : IsMark (row_at s (0, x))) where
  -- where a number isn't yet as it is to be, the turn changes its row, and replies 1
  pub turned_state : (there : Bool) → (is_some (row_at s (0, x)) ≡ there → ⊥) → with_row s (0, x) (row_if there) ≡ action_next (turn_to there) s x
  turned_state true n = sym (ap (λ b. if b then with_row s (0, x) (Some []) else s) (absent (row_at s (0, x)) n))
  turned_state false n = sym (ap (λ b. if b then with_row s (0, x) None else s) (present (row_at s (0, x)) mark n))

  pub turned_reply : (there : Bool) → (is_some (row_at s (0, x)) ≡ there → ⊥) → number_reply (pos 1) ≡ action_reply (turn_to there) s x
  turned_reply true n = sym (ap (λ b. number_reply (if b then pos 1 else pos 0)) (absent (row_at s (0, x)) n))
  turned_reply false n = sym (ap (λ b. number_reply (if b then pos 1 else pos 0)) (present (row_at s (0, x)) mark n))
