-- Why a table has no modes.
use Rattle.std.specs.Prelude.{◌≡◌, ℕ, ◌<◌, true, false}
use Rattle.gx_base.specs.Conditions.{Condition}
use Rattle.gx_base.specs.Methods.{is_method}
use Rattle.gx_base.specs.Tables.{Rows}
use Rattle.cond_lattice.specs.Grades.{is_simple}
use Rattle.lock_compiler.specs.declared.compiling.CompileRefuse.{CompileRefuse}
use Rattle.lock_compiler.specs.declared.compiling.CompileRefuse.TheVariants.{NotSimple, NoMemory}

-- among the rows with one method first, one that isn't simple, where each earlier one is
pub record IsFirstSecondNotSimple (kind : ℕ) (rows : ℕ → Condition) (second : ℕ) : Type 0 where
  pub method : is_method kind second ≡ true
  pub not_simple : is_simple (rows second) ≡ false
  pub earlier : (n : ℕ) → is_method kind n ≡ true → n < second → is_simple (rows n) ≡ true

-- a row of the kind's methods that isn't simple, where each row of earlier methods is
pub record IsFirstNotSimple (kind : ℕ) (rows : Rows) (first second : ℕ) : Type 0 where
  pub first_method : is_method kind first ≡ true
  pub second_method : is_method kind second ≡ true
  pub not_simple : is_simple (rows first second) ≡ false
  pub earlier_first : (m n : ℕ) → is_method kind m ≡ true → is_method kind n ≡ true → m < first → is_simple (rows m n) ≡ true
  pub earlier_second : (n : ℕ) → is_method kind n ≡ true → n < second → is_simple (rows first n) ≡ true

-- the refusal names the first row that isn't simple, and want of memory says nothing
abbrev pub CompileRefusalFits : ℕ → Rows → CompileRefuse → Type 0
CompileRefusalFits kind rows (NotSimple first second) = IsFirstNotSimple kind rows first second
CompileRefusalFits kind rows NoMemory = Unit {0}
