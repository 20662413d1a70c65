-- Calls on sets of rows: they turn one row into another, ask of one row, or look at all of them.
use Rattle.std.specs.Prelude.{ℤ, pos, Bool, true, false, ◌&&◌, if◌then◌else◌, Option, Some, None, List, [], ◌∷◌}
use Rattle.std.specs.Ordering.{int_eq}
use Rattle.gx_base.specs.declared.calls.Call.{Call}
use Rattle.gx_base.specs.declared.calls.Reply.{Reply}
use Rattle.gx_base.specs.States.{State, row_at, with_row}
use Rattle.gx_base.specs.Meanings.{Meaning, number_reply, nothing_seen}

-- a Turn makes the row into `left` where it is `found` and the turn is allowed, and replies 1, else 0;
-- an Ask replies by what the row holds, and a Look by the whole state
pub data RowAction : Type 0 where
  Nothing : RowAction
  Turn : (allowed : Bool) (found left : Option (List ℤ)) → RowAction
  Ask : (answer : Option (List ℤ) → Reply) → RowAction
  Look : (answer : State → Reply) → RowAction

-- two lists hold the same numbers
abbrev pub same_numbers : List ℤ → List ℤ → Bool
same_numbers [] [] = true
same_numbers [] (y ∷ ys) = false
same_numbers (x ∷ xs) [] = false
same_numbers (x ∷ xs) (y ∷ ys) = int_eq x y && same_numbers xs ys

-- two rows hold the same, or there is neither
abbrev pub same_content : Option (List ℤ) → Option (List ℤ) → Bool
same_content None None = true
same_content None (Some ys) = false
same_content (Some xs) None = false
same_content (Some xs) (Some ys) = same_numbers xs ys

-- the row is the one that the turn asks for
abbrev pub turns : Bool → Option (List ℤ) → State → ℤ → Bool
turns allowed found s x = allowed && same_content (row_at s (0, x)) found

-- the state after an action on the row (0, x)
abbrev pub action_next : RowAction → State → ℤ → State
action_next Nothing s x = s
action_next (Turn allowed found left) s x = if turns allowed found s x then with_row s (0, x) left else s
action_next (Ask answer) s x = s
action_next (Look answer) s x = s

-- what the action replies
abbrev pub action_reply : RowAction → State → ℤ → Reply
action_reply Nothing s x = number_reply (pos 0)
action_reply (Turn allowed found left) s x = number_reply (if turns allowed found s x then pos 1 else pos 0)
action_reply (Ask answer) s x = answer (row_at s (0, x))
action_reply (Look answer) s x = answer s

-- the state before an action that made this reply: a turn that replied 1 puts back what it found
abbrev pub action_inverse : RowAction → State → ℤ → Reply → State
action_inverse Nothing s x r = s
action_inverse (Turn allowed found left) s x r = if int_eq r.p (pos 1) then with_row s (0, x) found else s
action_inverse (Ask answer) s x r = s
action_inverse (Look answer) s x r = s

-- the meaning of a kind whose calls are actions on the row of their first number
abbrev pub actions_meaning : (Call → RowAction) → Meaning
actions_meaning action = record {
  next = λ s c. action_next (action c) s c.a;
  reply = λ s c. action_reply (action c) s c.a;
  inverse = λ s c r. action_inverse (action c) s c.a r;
  observed = nothing_seen;
}
