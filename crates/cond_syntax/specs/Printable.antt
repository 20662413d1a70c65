-- Which conditions and tables are read back from what is printed of them.
use Rattle.std.specs.Prelude.{◌≡◌, ℕ, suc, ◌≤◌, ◌<◌, ◌^◌, true, max, nat_abs, List}
use Rattle.gx_base.specs.declared.kinds.Kind.{Kind}
use Rattle.gx_base.specs.declared.conditions.Term.{Term}
use Rattle.gx_base.specs.declared.conditions.Term.TheVariants.{Const, Value, Beyond, State}
use Rattle.gx_base.specs.Conditions.{Condition, True, False, Eq, Ne, Lt, Le, And, Or, Not}
use Rattle.gx_base.specs.Kinds.{kind_number}
use Rattle.gx_base.specs.Tables.{Rows, KeepsToKind}
use Rattle.gx_base.specs.TableRows.{RowMap, row_of}
use Rattle.cond_syntax.specs.WrittenConditions.{has_state_function}
use Rattle.cond_syntax.specs.TableTexts.{most_deep, IsTableText}

-- a number of at most 18 digits, a value's place up to 7, and a state function for a kind that has one
abbrev pub IsPrintableTerm : Kind → Term → Type 0
IsPrintableTerm kind (Const number) = nat_abs number < 10 ^ 18
IsPrintableTerm kind (Value side place) = place ≤ 7
IsPrintableTerm kind (Beyond x y z) = Unit {0}
IsPrintableTerm kind (State side) = has_state_function (kind_number kind) ≡ true

-- each term of the condition is printable
abbrev pub ArePrintable : Kind → Condition → Type 0
ArePrintable kind True = Unit {0}
ArePrintable kind False = Unit {0}
ArePrintable kind (Eq x y) = IsPrintableTerm kind x × IsPrintableTerm kind y
ArePrintable kind (Ne x y) = IsPrintableTerm kind x × IsPrintableTerm kind y
ArePrintable kind (Lt x y) = IsPrintableTerm kind x × IsPrintableTerm kind y
ArePrintable kind (Le x y) = IsPrintableTerm kind x × IsPrintableTerm kind y
ArePrintable kind (And x y) = ArePrintable kind x × ArePrintable kind y
ArePrintable kind (Or x y) = ArePrintable kind x × ArePrintable kind y
ArePrintable kind (Not x) = ArePrintable kind x

-- how deep a condition is. An atom is 1 deep
abbrev pub condition_depth : Condition → ℕ
condition_depth True = 1
condition_depth False = 1
condition_depth (Eq x y) = 1
condition_depth (Ne x y) = 1
condition_depth (Lt x y) = 1
condition_depth (Le x y) = 1
condition_depth (And x y) = suc (max (condition_depth x) (condition_depth y))
condition_depth (Or x y) = suc (max (condition_depth x) (condition_depth y))
condition_depth (Not x) = suc (condition_depth x)

-- a condition that is read back from what is printed of it, in a table of this kind
pub record IsPrintable (kind : Kind) (condition : Condition) : Type 0 where
  pub terms : ArePrintable kind condition
  pub depth : condition_depth condition ≤ most_deep

-- a table that is read back from what is printed of it: each of its conditions is, and the row of a pair in which a
-- method isn't one of the kind's is false
pub record IsPrintableTable (kind : Kind) (rows : Rows) : Type 0 where
  pub each : (first second : ℕ) → IsPrintable kind (rows first second)
  pub keeps_to_kind : KeepsToKind (kind_number kind) rows

-- the bytes are the text of a table of this kind with these rows
pub record IsReadBack (wanted : List Kind) (bytes : List ℕ) (kind : Kind) (rows : Rows) : Type 0 where
  pub read : RowMap
  pub is_text : IsTableText wanted bytes kind read
  pub same : (first second : ℕ) → row_of read first second ≡ rows first second
