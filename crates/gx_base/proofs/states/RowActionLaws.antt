-- What actions on rows keep, and that they can be undone.
use Rattle.std.specs.Prelude.{◌≡◌, ℕ, ℤ, pos, Bool, true, false, cond, if◌then◌else◌, Option, Some, None, List, [], ◌∷◌, refl}
use Rattle.std.proofs.Common.{sym, ap, subst}
use Rattle.std.proofs.lemmas.Bool.{and_parts}
use Rattle.std.specs.Ordering.{int_eq}
use Rattle.gx_base.specs.States.{State, row_at, with_row}
use Rattle.gx_base.proofs.states.Registers.{same_row, same_row-is, same_int}
use Rattle.gx_base.proofs.states.StateRows.{written_back, row_at-with}
use Rattle.gx_base.specs.RowActions.{RowAction, Nothing, Turn, Ask, Look, action_next, action_reply, action_inverse, turns, same_content, same_numbers}

pub same_numbers-is : (xs ys : List ℤ) → same_numbers xs ys ≡ true → xs ≡ ys
same_numbers-is [] [] e = refl
same_numbers-is [] (y ∷ ys) e = absurd (cc)
same_numbers-is (x ∷ xs) [] e = absurd (cc)
same_numbers-is (x ∷ xs) (y ∷ ys) e =
    let p : (int_eq x y ≡ true) × (same_numbers xs ys ≡ true) = and_parts _ _ e in
    λ i. same_int x y p.0 i ∷ same_numbers-is xs ys p.1 i

pub same_content-is : (o p : Option (List ℤ)) → same_content o p ≡ true → o ≡ p
same_content-is None None e = refl
same_content-is None (Some ys) e = absurd (cc)
same_content-is (Some xs) None e = absurd (cc)
same_content-is (Some xs) (Some ys) e = ap Some (same_numbers-is xs ys e)

undone_if : (b : Bool) (s : State) (key : ℕ × ℤ) (found left : Option (List ℤ)) → (b ≡ true → row_at s key ≡ found)
    → (if int_eq (if b then pos 1 else pos 0) (pos 1) then with_row (cond b (with_row s key left) s) key found else cond b (with_row s key left) s) ≡ s
undone_if true s key found left h = written_back s key left found (h refl)
undone_if false s key found left h = refl

-- the inverse of an action gives the state before it
pub action_undone : (action : RowAction) (s : State) (x : ℤ) → action_inverse action (action_next action s x) x (action_reply action s x) ≡ s
action_undone Nothing s x = refl
action_undone (Turn allowed found left) s x = undone_if (turns allowed found s x) s (0, x) found left (λ t. same_content-is _ _ (and_parts _ _ t).1)
action_undone (Ask answer) s x = refl
action_undone (Look answer) s x = refl

kind_if : (b : Bool) (s : State) (key : ℕ × ℤ) (left : Option (List ℤ)) → (cond b (with_row s key left) s).kind ≡ s.kind
kind_if true s key left = refl
kind_if false s key left = refl

pub action_kind : (action : RowAction) (s : State) (x : ℤ) → (action_next action s x).kind ≡ s.kind
action_kind Nothing s x = refl
action_kind (Turn allowed found left) s x = kind_if (turns allowed found s x) s (0, x) left
action_kind (Ask answer) s x = refl
action_kind (Look answer) s x = refl

-- what a written row keeps of a state
row_if : (P : ℕ × ℤ → Option (List ℤ) → Type 0) (key q : ℕ × ℤ) (row old : Option (List ℤ)) (b : Bool) → same_row q key ≡ b → P key row → P q old → P q (cond b row old)
row_if P key q row old true e h k = subst (λ r. P r row) (sym (same_row-is q key e)) h
row_if P key q row old false e h k = k

write_keeps : (P : ℕ × ℤ → Option (List ℤ) → Type 0) (s : State) (key : ℕ × ℤ) (row : Option (List ℤ)) → P key row → ((q : ℕ × ℤ) → P q (row_at s q)) → (q : ℕ × ℤ) → P q (row_at (with_row s key row) q)
write_keeps P s key row h k q = subst (P q) (sym (row_at-with s key row q)) (row_if P key q row (row_at s q) (same_row q key) refl h (k q))

-- what a turn leaves is as it should be
abbrev pub Leaves : (ℕ × ℤ → Option (List ℤ) → Type 0) → RowAction → ℤ → Type 0
Leaves P (Turn allowed found left) x = P (0, x) left
Leaves P _ x = Unit {0}

state_if : (P : State → Type 0) (b : Bool) (s t : State) → P t → P s → P (cond b t s)
state_if P true s t h k = h
state_if P false s t h k = k

pub action_keeps : (P : ℕ × ℤ → Option (List ℤ) → Type 0) (action : RowAction) (s : State) (x : ℤ) → Leaves P action x → ((q : ℕ × ℤ) → P q (row_at s q)) → (q : ℕ × ℤ) → P q (row_at (action_next action s x) q)
action_keeps P Nothing s x h k = k
action_keeps P (Turn allowed found left) s x h k = state_if (λ t. (q : ℕ × ℤ) → P q (row_at t q)) (turns allowed found s x) s (with_row s (0, x) left) (write_keeps P s (0, x) left h k) k
action_keeps P (Ask answer) s x h k = k
action_keeps P (Look answer) s x h k = k
