-- The rules by which a condition is below another.
use Rattle.std.specs.Prelude.{◌≡◌, Bool, true, not, ◌&&◌, ◌||◌}
use Rattle.gx_base.specs.declared.conditions.Side.{Side}
use Rattle.gx_base.specs.declared.conditions.Side.TheVariants.{First, Second}
use Rattle.gx_base.specs.Conditions.{Condition, True, False, And, Or}
use Rattle.gx_base.specs.Below.{names_state}
use Rattle.cond_lattice.specs.Same.{Same, same_condition}

-- a derivation that the first condition is below the second, one constructor for each rule
pub data Derivation : Condition → Condition → Type 0 where
  lower_false : {d : Condition} → Derivation False d
  upper_true : {c : Condition} → Derivation c True
  same : {c d : Condition} → Same c d → Derivation c d
  lower_or : {a b d : Condition} → Derivation a d → Derivation b d → Derivation (Or a b) d
  upper_and : {c a b : Condition} → Derivation c a → Derivation c b → Derivation c (And a b)
  lower_and_left : {a b d : Condition} → Derivation a d → Derivation (And a b) d
  lower_and_right : {a b d : Condition} → Derivation b d → Derivation (And a b) d
  upper_or_left : {c a b : Condition} → Derivation c a → Derivation c (Or a b)
  upper_or_right : {c a b : Condition} → Derivation c b → Derivation c (Or a b)

-- what an atom or a negation, told by what is the same as it, is below
abbrev pub unit_below : (Condition → Bool) → Condition → Bool
unit_below is_same True = true
unit_below is_same (And a b) = unit_below is_same a && unit_below is_same b
unit_below is_same (Or a b) = unit_below is_same a || unit_below is_same b
unit_below is_same d = is_same d

-- what an `and` is below, told by what its sides are below
abbrev pub and_below : (Condition → Bool) → (Condition → Bool) → Condition → Bool
and_below left right True = true
and_below left right (And a b) = and_below left right a && and_below left right b
and_below left right (Or a b) = left (Or a b) || right (Or a b) || and_below left right a || and_below left right b
and_below left right d = left d || right d

-- whether a derivation exists; that it does exactly where this says so is proved
abbrev pub is_derived : Condition → Condition → Bool
is_derived False d = true
is_derived (And a b) d = and_below (is_derived a) (is_derived b) d
is_derived (Or a b) d = is_derived a d && is_derived b d
is_derived c d = unit_below (same_condition c) d

-- c names no state function but those that d names
abbrev pub names_as_little : Condition → Condition → Bool
names_as_little c d = (not (names_state First c) || names_state First d) && (not (names_state Second c) || names_state Second d)

-- a row is below another by the rules: a derivation exists, and each state function that the lower row names stands in the upper one
pub record IsRowBelow (c d : Condition) : Type 0 where
  pub derivation : Derivation c d
  pub terms : (side : Side) → names_state side c ≡ true → names_state side d ≡ true
