-- When acts may be swapped: on two rows, or where neither changes anything.
use Rattle.std.specs.Prelude.{◌≡◌, ℕ, ℤ, pos, Bool, true, false, not, cond, ◌&&◌, ◌||◌, if◌then◌else◌, Option, List, refl, ◌⊎◌}
use Rattle.std.proofs.Common.{sym, subst, inl, inr}
use Rattle.std.specs.Ordering.{int_eq}
use Rattle.gx_base.specs.declared.calls.Reply.{Reply}
use Rattle.gx_base.specs.States.{State, row_at, with_row}
use Rattle.gx_base.proofs.CallerLemmas.{same_row, with_row-row_at}
use Rattle.gx_base.specs.Meanings.{number_reply}
use Rattle.gx_base.specs.RowActions.{RowAction, Nothing, Turn, Ask, Look, action_next, action_reply, turns, same_content}
use Rattle.kind_tables.proofs.swapping.Effects.{Effect, SwapsBy, both_still, UsesRow, in_two_rows, numbers_of_rows_differ, both, not_true}

-- an act that looks at no other row
abbrev pub IsNear : RowAction → Type 0
IsNear (Look answer) = ⊥
IsNear _ = Unit {0}

-- what an act leaves of its row
abbrev pub row_after : RowAction → Option (List ℤ) → Option (List ℤ)
row_after (Turn allowed found left) row = if allowed && same_content row found then left else row
row_after _ row = row

-- what an act that looks at its own row alone replies
abbrev pub row_answer : RowAction → Option (List ℤ) → Reply
row_answer (Turn allowed found left) row = number_reply (if allowed && same_content row found then pos 1 else pos 0)
row_answer (Ask answer) row = answer row
row_answer _ row = number_reply (pos 0)

next_if : (b : Bool) (s : State) (key : ℕ × ℤ) (left : Option (List ℤ)) → cond b (with_row s key left) s ≡ with_row s key (cond b left (row_at s key))
next_if true s key left = refl
next_if false s key left = sym (with_row-row_at s key)

pub near_next : (act : RowAction) → IsNear act → (s : State) (x : ℤ) → action_next act s x ≡ with_row s (0, x) (row_after act (row_at s (0, x)))
near_next Nothing h s x = sym (with_row-row_at s (0, x))
near_next (Turn allowed found left) h s x = next_if (turns allowed found s x) s (0, x) left
near_next (Ask answer) h s x = sym (with_row-row_at s (0, x))
near_next (Look answer) h s x = absurd h

pub near_reply : (act : RowAction) → IsNear act → (s : State) (x : ℤ) → action_reply act s x ≡ row_answer act (row_at s (0, x))
near_reply Nothing h s x = refl
near_reply (Turn allowed found left) h s x = refl
near_reply (Ask answer) h s x = refl
near_reply (Look answer) h s x = absurd h

still_if : (b : Bool) (s t : State) → int_eq (if b then pos 1 else pos 0) (pos 0) ≡ true → cond b t s ≡ s
still_if true s t e = absurd (cc)
still_if false s t e = refl

-- a turn that answers 0 changes nothing
pub turn_still : (allowed : Bool) (found left : Option (List ℤ)) (s : State) (x : ℤ) → int_eq (action_reply (Turn allowed found left) s x).p (pos 0) ≡ true → action_next (Turn allowed found left) s x ≡ s
turn_still allowed found left s x e = still_if (turns allowed found s x) s _ e

-- an act on the row of a number, as an effect
abbrev pub action_effect : RowAction → ℤ → Effect
action_effect act x = record { next = λ s. action_next act s x; reply = λ s. action_reply act s x }

pub near_uses : (act : RowAction) (x : ℤ) → IsNear act → UsesRow (action_effect act x) (0, x)
near_uses act x h = record { after = row_after act; answer = row_answer act; next_is = λ s. near_next act h s x; reply_is = λ s. near_reply act h s x }

other_or : (x y : Bool) → (not x || y) ≡ true → (x ≡ false) ⊎ (y ≡ true)
other_or true y e = inr e
other_or false y e = inl refl

-- the acts name two rows, or neither changes anything
abbrev pub Pair : State → ℤ → ℤ → RowAction → RowAction → Type 0
Pair s x y p q = (int_eq x y ≡ false) ⊎ ((action_next p s x ≡ s) × (action_next q s y ≡ s))

pub pair_swaps : (s : State) (x y : ℤ) (p q : RowAction) → IsNear p → IsNear q → Pair s x y p q → SwapsBy (action_effect p x) (action_effect q y) s
pair_swaps s x y p q f g (inl n) =
    let m : (same_row (0, x) (0, y) ≡ false) × (same_row (0, y) (0, x) ≡ false) = numbers_of_rows_differ 0 0 x y n in
    in_two_rows (action_effect p x) (action_effect q y) s (0, x) (0, y) (near_uses p x f) (near_uses q y g) m.0 m.1
pair_swaps s x y p q f g (inr h) = both_still (action_effect p x) (action_effect q y) s h.0 h.1

-- what the four forms of condition say, for turns, and for acts that change nothing
pub two_apart_rows : (s : State) (x y : ℤ) (p q : RowAction) → not (int_eq x y) ≡ true → Pair s x y p q
two_apart_rows s x y p q e = inl (not_true _ e)

pub two_turns : (s : State) (x y : ℤ) (allowed other : Bool) (found left gone here : Option (List ℤ)) →
    (not (int_eq x y) || (int_eq (action_reply (Turn allowed found left) s x).p (pos 0) && int_eq (action_reply (Turn other gone here) (action_next (Turn allowed found left) s x) y).p (pos 0))) ≡ true
    → Pair s x y (Turn allowed found left) (Turn other gone here)
two_turns s x y allowed other found left gone here e = turns_by (other_or _ _ e)
  where
    p : RowAction
    p = Turn allowed found left

    q : RowAction
    q = Turn other gone here

    turns_by : (int_eq x y ≡ false) ⊎ ((int_eq (action_reply p s x).p (pos 0) && int_eq (action_reply q (action_next p s x) y).p (pos 0)) ≡ true) → Pair s x y p q
    turns_by (inl n) = inl n
    turns_by (inr t) =
        let h : (int_eq (action_reply p s x).p (pos 0) ≡ true) × (int_eq (action_reply q (action_next p s x) y).p (pos 0) ≡ true) = both _ _ t in
        let i : action_next p s x ≡ s = turn_still allowed found left s x h.0 in
        let j : action_next q (action_next p s x) y ≡ action_next p s x = turn_still other gone here (action_next p s x) y h.1 in
        inr (i, subst (λ t. action_next q t y ≡ t) i j)

pub turn_first : (s : State) (x y : ℤ) (allowed : Bool) (found left : Option (List ℤ)) (q : RowAction) → action_next q s y ≡ s
    → (not (int_eq x y) || int_eq (action_reply (Turn allowed found left) s x).p (pos 0)) ≡ true → Pair s x y (Turn allowed found left) q
turn_first s x y allowed found left q j e = first_by (other_or _ _ e)
  where
    first_by : (int_eq x y ≡ false) ⊎ (int_eq (action_reply (Turn allowed found left) s x).p (pos 0) ≡ true) → Pair s x y (Turn allowed found left) q
    first_by (inl n) = inl n
    first_by (inr t) = inr (turn_still allowed found left s x t, j)

pub turn_second : (s : State) (x y : ℤ) (p : RowAction) (allowed : Bool) (found left : Option (List ℤ)) → action_next p s x ≡ s
    → (not (int_eq x y) || int_eq (action_reply (Turn allowed found left) (action_next p s x) y).p (pos 0)) ≡ true → Pair s x y p (Turn allowed found left)
turn_second s x y p allowed found left i e = second_by (other_or _ _ e)
  where
    second_by : (int_eq x y ≡ false) ⊎ (int_eq (action_reply (Turn allowed found left) (action_next p s x) y).p (pos 0) ≡ true) → Pair s x y p (Turn allowed found left)
    second_by (inl n) = inl n
    second_by (inr t) = inr (i, subst (λ t. action_next (Turn allowed found left) t y ≡ t) i (turn_still allowed found left (action_next p s x) y t))
