-- When a row is below another: what the order of conditions means.
use Rattle.std.specs.Prelude.{◌≡◌, ℕ, Bool, true, false, ◌||◌}
use Rattle.gx_base.specs.declared.calls.Made.{Made}
use Rattle.gx_base.specs.declared.calls.Seen.{Seen}
use Rattle.gx_base.specs.declared.conditions.Side.{Side}
use Rattle.gx_base.specs.declared.conditions.Side.TheVariants.{First, Second}
use Rattle.gx_base.specs.declared.conditions.Term.{Term}
use Rattle.gx_base.specs.declared.conditions.Term.TheVariants.{State as StateTerm}
use Rattle.gx_base.specs.Conditions.{Condition, True, False, Eq, Ne, Lt, Le, And, Or, Not, holds}
use Rattle.gx_base.specs.Tables.{Rows}

-- both are the first call, or both the second
abbrev pub same_side : Side → Side → Bool
same_side First First = true
same_side First Second = false
same_side Second First = false
same_side Second Second = true

-- the term is the state function at the first value of the call on this side
abbrev pub term_names : Side → Term → Bool
term_names side (StateTerm other) = same_side side other
term_names side _ = false

-- the condition names the state function at the first value of the call on this side
abbrev pub names_state : Side → Condition → Bool
names_state side True = false
names_state side False = false
names_state side (Eq x y) = term_names side x || term_names side y
names_state side (Ne x y) = term_names side x || term_names side y
names_state side (Lt x y) = term_names side x || term_names side y
names_state side (Le x y) = term_names side x || term_names side y
names_state side (And x y) = names_state side x || names_state side y
names_state side (Or x y) = names_state side x || names_state side y
names_state side (Not x) = names_state side x

-- c is true only where d is, whatever the calls and the state functions, and names no state function that d doesn't name
pub record IsBelow (c d : Condition) : Type 0 where
  pub truth : (first second : Made) (seen : Seen) → holds c first second seen ≡ true → holds d first second seen ≡ true
  pub terms : (side : Side) → names_state side c ≡ true → names_state side d ≡ true

-- a table is below another where each of its rows is
abbrev pub AreBelow : Rows → Rows → Type 0
AreBelow lower upper = (first second : ℕ) → IsBelow (lower first second) (upper first second)
