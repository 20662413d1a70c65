-- Cells: a number for each key, in the rows of sort 0.
use Rattle.std.specs.Prelude.{ℕ, ◌+◌, false, ◌==◌, if◌then◌else◌, [], ◌∷◌, codes}
use Rattle.gx_base.specs.States.{HoldsNumbers}
use Rattle.gx_base.specs.ObjectKinds.{ObjectKind}
use Rattle.gx_base.specs.RegisterDeeds.{Reads, Adds, Sets, Use, Nothing, On, register_meaning}

-- the number of the first method of cells
abbrev pub cells_first : ℕ
cells_first = 8

-- what each method of cells does
abbrev pub cells_use : ℕ → Use
cells_use method =
    if method == cells_first then On 0 Reads
    else if method == cells_first + 1 then On 0 Adds
    else if method == cells_first + 2 then On 0 Sets
    else Nothing

-- the kind of cells
abbrev pub cells_kind : ObjectKind
cells_kind = record {
  word = codes "cells";
  first = cells_first;
  words = codes "read" ∷ codes "add" ∷ codes "set" ∷ [];
  meaning = register_meaning cells_use;
  may_hold = HoldsNumbers;
  has_state_function = false;
}
