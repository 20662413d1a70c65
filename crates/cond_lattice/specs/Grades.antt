-- The classes of conditions.
use Rattle.std.specs.Prelude.{◌≡◌, ℕ, ◌≤◌, Bool, true, false, ◌&&◌, List, [], ◌∷◌, map, if◌then◌else◌}
use Rattle.gx_base.specs.declared.conditions.Side.TheVariants.{First, Second}
use Rattle.gx_base.specs.declared.conditions.Term.{Term}
use Rattle.gx_base.specs.declared.conditions.Term.TheVariants.{Value}
use Rattle.gx_base.specs.Conditions.{Condition, True, False, Ne, And}
use Rattle.gx_base.specs.Below.{names_state}
use Rattle.gx_base.specs.Methods.{is_method, methods_of}
use Rattle.gx_base.specs.Tables.{Rows}
use Rattle.cond_lattice.specs.declared.grades.Grade.{Grade}
use Rattle.cond_lattice.specs.declared.grades.Grade.TheVariants.{Simple, Online, General}

-- one term is a value of the first call and the other a value of the second
abbrev pub are_across : Term → Term → Bool
are_across (Value First i) (Value Second j) = true
are_across (Value Second i) (Value First j) = true
are_across _ _ = false

-- one or more inequalities of a value of the first call and a value of the second
abbrev pub is_conjunction : Condition → Bool
is_conjunction (Ne x y) = are_across x y
is_conjunction (And x y) = is_conjunction x && is_conjunction y
is_conjunction _ = false

abbrev pub is_simple : Condition → Bool
is_simple True = true
is_simple False = true
is_simple c = is_conjunction c

-- the class of a condition
abbrev pub grade_of : Condition → Grade
grade_of c = if is_simple c then Simple else if names_state Second c then General else Online

abbrev pub greater : Grade → Grade → Grade
greater Simple g = g
greater Online Simple = Online
greater Online g = g
greater General g = General

abbrev pub greatest : List Grade → Grade
greatest [] = Simple
greatest (g ∷ gs) = greater g (greatest gs)

-- the greatest class of the rows with this method first
abbrev pub first_grade : ℕ → Rows → ℕ → Grade
first_grade kind rows first = greatest (map (λ second. grade_of (rows first second)) (methods_of kind))

-- the greatest class of a table's rows, over the pairs of methods of a kind
abbrev pub table_grade : ℕ → Rows → Grade
table_grade kind rows = greatest (map (first_grade kind rows) (methods_of kind))

-- the place of a class in their rising order
abbrev pub rank : Grade → ℕ
rank Simple = 0
rank Online = 1
rank General = 2

-- some row of the kind's methods is of this class
pub record HasRowOf (kind : ℕ) (rows : Rows) (grade : Grade) : Type 0 where
  pub first : ℕ
  pub second : ℕ
  pub first_method : is_method kind first ≡ true
  pub second_method : is_method kind second ≡ true
  pub class : grade_of (rows first second) ≡ grade

-- no row of the kind's methods is of a greater class, and some row is of this one
pub record IsGreatestClass (kind : ℕ) (rows : Rows) (grade : Grade) : Type 0 where
  pub none_greater : (first second : ℕ) → is_method kind first ≡ true → is_method kind second ≡ true → rank (grade_of (rows first second)) ≤ rank grade
  pub reached : HasRowOf kind rows grade

-- each row of the kind's methods is simple
abbrev pub AreSimple : ℕ → Rows → Type 0
AreSimple kind rows = (first second : ℕ) → is_method kind first ≡ true → is_method kind second ≡ true → is_simple (rows first second) ≡ true
