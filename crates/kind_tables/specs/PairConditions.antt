-- The conditions on two calls of which the rows of several kinds are made.
use Rattle.std.specs.Prelude.{ℕ, pos}
use Rattle.gx_base.specs.declared.conditions.Side.TheVariants.{First, Second}
use Rattle.gx_base.specs.declared.conditions.Term.TheVariants.{Const, Value}
use Rattle.gx_base.specs.Conditions.{Condition, Eq, Ne}
use Rattle.gx_base.specs.Tables.{Rows}

-- the rows that stand for deeds, where each method does one
abbrev pub rows_by : {D : Type 0} → (ℕ → D) → (D → D → Condition) → Rows
rows_by deed row first second = row (deed first) (deed second)

-- the two calls name different numbers
abbrev pub different_numbers : Condition
different_numbers = Ne (Value First 0) (Value Second 0)

-- the two calls name one number
abbrev pub same_number : Condition
same_number = Eq (Value First 0) (Value Second 0)

-- the first call replied 0, so it changed nothing
abbrev pub first_changed_nothing : Condition
first_changed_nothing = Eq (Value First 4) (Const (pos 0))

-- the same of the second call
abbrev pub second_changed_nothing : Condition
second_changed_nothing = Eq (Value Second 4) (Const (pos 0))

-- the first call adds 0
abbrev pub first_adds_nothing : Condition
first_adds_nothing = Eq (Value First 1) (Const (pos 0))

-- the same of the second call
abbrev pub second_adds_nothing : Condition
second_adds_nothing = Eq (Value Second 1) (Const (pos 0))

-- the first call writes what was there
abbrev pub first_writes_the_same : Condition
first_writes_the_same = Eq (Value First 4) (Value First 1)

-- the same of the second call
abbrev pub second_writes_the_same : Condition
second_writes_the_same = Eq (Value Second 4) (Value Second 1)
