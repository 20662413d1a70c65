-- Sets: a row without numbers for each number in the set.
use Rattle.std.specs.Prelude.{ℕ, ◌+◌, ℤ, pos, true, false, ◌==◌, if◌then◌else◌, Option, Some, None, List, [], ◌∷◌, is_some, codes}
use Rattle.std.specs.FinMap as map
use Rattle.gx_base.specs.States.{State}
use Rattle.gx_base.specs.Meanings.{Meaning, number_reply}
use Rattle.gx_base.specs.ObjectKinds.{ObjectKind}
use Rattle.gx_base.specs.RowActions.{RowAction, Nothing as NoAction, Turn, Ask, actions_meaning}

-- the number of the first method of sets
abbrev pub set_first : ℕ
set_first = 0

-- the methods of sets
pub data SetDeed : Type 0 where
  Add : SetDeed
  Remove : SetDeed
  Contains : SetDeed
  Nothing : SetDeed

-- the method of a number
abbrev pub set_deed : ℕ → SetDeed
set_deed method =
    if method == set_first then Add
    else if method == set_first + 1 then Remove
    else if method == set_first + 2 then Contains
    else Nothing

-- what a method of sets does
abbrev pub set_action : SetDeed → RowAction
set_action Add = Turn true None (Some [])
set_action Remove = Turn true (Some []) None
set_action Contains = Ask (λ row. number_reply (if is_some row then pos 1 else pos 0))
set_action Nothing = NoAction

-- the meaning of sets
abbrev pub set_meaning : Meaning
set_meaning = actions_meaning (λ c. set_action (set_deed c.method))

-- a row without numbers, or none
abbrev pub IsMark : Option (List ℤ) → Type 0
IsMark None = Unit {0}
IsMark (Some []) = Unit {0}
IsMark (Some xs) = ⊥

-- each row is a mark
abbrev pub HoldsMarks : State → Type 0
HoldsMarks s = (key : ℕ × ℤ) → IsMark (map.get s.rows key)

-- the kind of sets
abbrev pub set_kind : ObjectKind
set_kind = record {
  word = codes "set";
  first = set_first;
  words = codes "add" ∷ codes "remove" ∷ codes "contains" ∷ [];
  meaning = set_meaning;
  may_hold = HoldsMarks;
  has_state_function = false;
}
