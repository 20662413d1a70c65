-- The rows of a set's state: one without numbers for each number whose mark isn't 0.
use Rattle.std.specs.Prelude.{◌≡◌, ℕ, ℤ, pos, Bool, true, false, cond, Option, Some, None, List, [], ◌∷◌, if◌then◌else◌}
use Rattle.std.proofs.Common.{sym, subst}
use Rattle.std.specs.Ordering.{int_cmp, int_eq}
use Rattle.std.specs.FinMap as map
use Rattle.gx_base.specs.declared.kinds.Kind.TheVariants.{Set}
use Rattle.gx_base.specs.Kinds.{kind_number}
use Rattle.gx_base.specs.States.{State, row_cmp, rows_put}
use Rattle.gx_base.specs.SetKind.{IsMark}
use Rattle.gx_base.proofs.CallerLemmas.{same_row, row_at-with}

-- marks by number
abbrev pub Marks : Type 0
Marks = map.FinMap int_cmp ℤ

-- the row of a number that is present, or not
abbrev pub row_if : Bool → Option (List ℤ)
row_if present = if present then Some [] else None

-- the row of a number with this mark
abbrev pub mark_row : ℤ → Option (List ℤ)
mark_row mark = if int_eq mark (pos 0) then None else Some []

abbrev pub entries_marked : List (ℤ × ℤ) → map.FinMap row_cmp (List ℤ)
entries_marked [] = map.empty
entries_marked (e ∷ es) = rows_put (entries_marked es) (0, e.0) (mark_row e.1)

-- the rows of a state with these marks
unfoldable pub set_rows : Marks → map.FinMap row_cmp (List ℤ)
set_rows m = entries_marked (map.entries m)

-- What follows says that each row is a mark. It stands here since what the object says of every value rests on it, and
-- that takes nothing from this crate's proofs.

row-IsMark : (b : Bool) → IsMark (if b then None else Some [])
row-IsMark true = tt
row-IsMark false = tt

put-IsMark : (b : Bool) (row old : Option (List ℤ)) → IsMark row → IsMark old → IsMark (cond b row old)
put-IsMark true row old h k = h
put-IsMark false row old h k = k

marked-IsMark : (es : List (ℤ × ℤ)) (key : ℕ × ℤ) → IsMark (map.get (entries_marked es) key)
marked-IsMark [] key = subst IsMark (sym (map.get-empty row_cmp key)) tt
marked-IsMark (e ∷ es) key =
    let s : State = record { kind = kind_number Set; rows = entries_marked es } in
    subst IsMark (sym (row_at-with s (0, e.0) (mark_row e.1) key)) (put-IsMark (same_row key (0, e.0)) (mark_row e.1) _ (row-IsMark (int_eq e.1 (pos 0))) (marked-IsMark es key))

pub set_rows-IsMark : (m : Marks) (key : ℕ × ℤ) → IsMark (map.get (set_rows m) key)
unfolding set_rows
set_rows-IsMark m key = marked-IsMark (map.entries m) key
