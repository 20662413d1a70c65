-- The modes that keep a table of simple rows.
use Rattle.std.specs.Prelude.{◌≡◌, ◌⊎◌, ℕ, ◌==◌, Bool, true, false, nat_le, Some, None, List, [], ◌∷◌, map, if◌then◌else◌}
use Rattle.std.specs.List.{flat_map}
use Rattle.gx_base.specs.declared.conditions.Side.{Side}
use Rattle.gx_base.specs.declared.conditions.Side.TheVariants.{First, Second}
use Rattle.gx_base.specs.declared.conditions.Term.{Term}
use Rattle.gx_base.specs.declared.conditions.Term.TheVariants.{Value}
use Rattle.gx_base.specs.Conditions.{Condition, Ne, And, is_false}
use Rattle.gx_base.specs.Below.{same_side}
use Rattle.gx_base.specs.Methods.{is_method, methods_of}
use Rattle.gx_base.specs.Tables.{Rows}
use Rattle.cond_lattice.specs.Simple.{stands_in}
use Rattle.lock_compiler.specs.LockModes.{Member, LockMode, LockModes}

-- a number in its place among rising ones, once
abbrev pub with_its_number : ℕ → List ℕ → List ℕ
with_its_number n [] = n ∷ []
with_its_number n (m ∷ ms) = if nat_le n m then (if n == m then m ∷ ms else n ∷ m ∷ ms) else m ∷ with_its_number n ms

-- with the number of a value of the call on this side, where the term is one
abbrev pub with_term : Side → Term → List ℕ → List ℕ
with_term side (Value other place) numbers = if same_side side other then with_its_number place numbers else numbers
with_term side _ numbers = numbers

-- with the numbers of the values that stand in the inequalities of a conjunction, of the call on this side
abbrev pub with_condition : Side → Condition → List ℕ → List ℕ
with_condition side (Ne x y) numbers = with_term side y (with_term side x numbers)
with_condition side (And a b) numbers = with_condition side b (with_condition side a numbers)
with_condition side _ numbers = numbers

-- with those of a method's values in its rows with other methods, in both orders
abbrev pub with_methods : Rows → ℕ → List ℕ → List ℕ → List ℕ
with_methods rows method [] numbers = numbers
with_methods rows method (other ∷ others) numbers =
    with_methods rows method others (with_condition Second (rows other method) (with_condition First (rows method other) numbers))

-- the numbers of the values that stand in some inequality of a method, rising
abbrev pub locked_numbers : ℕ → Rows → ℕ → List ℕ
locked_numbers kind rows method = with_methods rows method (methods_of kind) []

-- a row has an inequality with the value of this number of the method's calls, where a call of the method runs first
-- or where it runs second
pub record StandsInSome (kind : ℕ) (rows : Rows) (method number : ℕ) : Type 0 where
  pub other : ℕ
  pub known : is_method kind other ≡ true
  pub partner : ℕ
  pub stands : (stands_in (Value First number) (Value Second partner) (rows method other) ≡ true)
      ⊎ (stands_in (Value First partner) (Value Second number) (rows other method) ≡ true)

-- a method as a whole, and then its values
abbrev pub method_members : ℕ → Rows → ℕ → List Member
method_members kind rows method = (method, None) ∷ map (λ number. (method, Some number)) (locked_numbers kind rows method)

-- all that may be locked, by rising method
abbrev pub members_of : ℕ → Rows → List Member
members_of kind rows = flat_map (method_members kind rows) (methods_of kind)

-- two methods as a whole are incompatible where their row is false, and two values where their row has their inequality
abbrev pub members_refuse : Rows → Member → Member → Bool
members_refuse rows (held, None) (asked, None) = is_false (rows held asked)
members_refuse rows (held, Some i) (asked, Some j) = stands_in (Value First i) (Value Second j) (rows held asked)
members_refuse rows (held, i) (asked, j) = false

abbrev pub single_mode : Rows → List Member → Member → LockMode
single_mode rows members member = record { members = member ∷ []; refuses = map (members_refuse rows member) members }

-- a mode for each method as a whole and for each value of its calls that stands in an inequality
abbrev pub compiled : ℕ → Rows → LockModes
compiled kind rows = map (single_mode rows (members_of kind rows)) (members_of kind rows)
