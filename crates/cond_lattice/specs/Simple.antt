-- The order of simple conditions, and their bounds.
use Rattle.std.specs.Prelude.{◌≡◌, Bool, true, false, not, ◌&&◌, ◌||◌, nat_le, if◌then◌else◌}
use Rattle.gx_base.specs.declared.calls.Made.{Made}
use Rattle.gx_base.specs.declared.calls.Seen.{Seen}
use Rattle.gx_base.specs.declared.conditions.Term.{Term}
use Rattle.gx_base.specs.declared.conditions.Term.TheVariants.{Value}
use Rattle.gx_base.specs.Conditions.{Condition, True, False, Ne, And, Or, holds, is_false}
use Rattle.cond_lattice.specs.Grades.{are_across, is_simple}
use Rattle.cond_lattice.specs.Same.{same_sides}

-- a conjunction has this inequality, either side first
abbrev pub stands_in : Term → Term → Condition → Bool
stands_in x y (Ne u v) = same_sides x y u v
stands_in x y (And a b) = stands_in x y a || stands_in x y b
stands_in x y _ = false

-- each inequality of a conjunction stands in another
abbrev pub all_stand_in : Condition → Condition → Bool
all_stand_in (Ne x y) d = stands_in x y d
all_stand_in (And a b) d = all_stand_in a d && all_stand_in b d
all_stand_in _ d = true

-- the order of simple conditions: c is false, or d is not and each inequality of d stands in c
abbrev pub simply_below : Condition → Condition → Bool
simply_below c d = is_false c || (not (is_false d) && all_stand_in d c)

-- c is true only where d is, whatever the calls and the state functions
abbrev pub Implies : Condition → Condition → Type 0
Implies c d = (first second : Made) (seen : Seen) → holds c first second seen ≡ true → holds d first second seen ≡ true

abbrev pub is_near_term : Term → Bool
is_near_term (Value side i) = nat_le i 7
is_near_term _ = true

-- the value numbers of a conjunction are at most 7, the last that a call and its reply have
abbrev pub is_near : Condition → Bool
is_near (Ne x y) = is_near_term x && is_near_term y
is_near (And a b) = is_near a && is_near b
is_near _ = true

-- a conjunction with one more inequality at its right end, unless it has it already
abbrev pub with_inequality : Condition → Term → Term → Condition
with_inequality True x y = Ne x y
with_inequality c x y = if stands_in x y c then c else And c (Ne x y)

-- a conjunction with those inequalities of another, in its order, that stand in a third
abbrev pub joined_with : Condition → Condition → Condition → Condition
joined_with built (Ne x y) kept = if stands_in x y kept then with_inequality built x y else built
joined_with built (And a b) kept = joined_with (joined_with built a kept) b kept
joined_with built _ kept = built

abbrev pub is_true : Condition → Bool
is_true True = true
is_true _ = false

-- all inequalities of both, each once
abbrev pub meet_of : Condition → Condition → Condition
meet_of c d =
    if is_false c then False
    else if is_false d then False
    else if is_true c then d
    else if is_true d then c
    else joined_with (joined_with True c c) d d

-- the inequalities of the first that stand in the second, each once
abbrev pub join_of : Condition → Condition → Condition
join_of c d =
    if is_false c then d
    else if is_false d then c
    else joined_with True c d

abbrev pub strengthened_or : Condition → Condition → Condition
strengthened_or left right = if is_false left then right else left

-- a simple condition below another
abbrev pub strengthened : Condition → Condition
strengthened True = True
strengthened (Ne x y) = if are_across x y then Ne x y else False
strengthened (And a b) = meet_of (strengthened a) (strengthened b)
strengthened (Or a b) = strengthened_or (strengthened a) (strengthened b)
strengthened _ = False

-- m is the greatest simple condition below both; the greatest among those with value numbers up to 7, where both are such
pub record IsMeet (c d m : Condition) : Type 0 where
  pub simple : is_simple m ≡ true
  pub below_first : Implies m c
  pub below_second : Implies m d
  pub greatest : is_near c ≡ true → is_near d ≡ true → (e : Condition) → is_simple e ≡ true → is_near e ≡ true → Implies e c → Implies e d → Implies e m

-- m is the least simple condition above both, in the same way
pub record IsJoin (c d m : Condition) : Type 0 where
  pub simple : is_simple m ≡ true
  pub above_first : Implies c m
  pub above_second : Implies d m
  pub least : is_near c ≡ true → is_near d ≡ true → (e : Condition) → is_simple e ≡ true → is_near e ≡ true → Implies c e → Implies d e → Implies m e
