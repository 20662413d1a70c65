-- What conditions mean.
use Rattle.std.specs.Prelude.{ℕ, ℤ, pos, Bool, true, false, not, ◌&&◌, ◌||◌, ◌==◌, if◌then◌else◌, int_lt}
use Rattle.std.specs.Ordering.{int_eq}
use Rattle.gx_base.specs.declared.calls.Made.{Made}
use Rattle.gx_base.specs.declared.calls.Seen.{Seen}
use Rattle.gx_base.specs.declared.conditions.Side.TheVariants.{First, Second}
use Rattle.gx_base.specs.declared.calls.Spot.{Spot}
use Rattle.gx_base.specs.declared.conditions.Part.{Part}
use Rattle.gx_base.specs.declared.conditions.Part.TheVariants.{ArgFirst, ArgSecond, RepFirst, RepSecond}
use Rattle.gx_base.specs.declared.conditions.Term.{Term}
use Rattle.gx_base.specs.declared.conditions.Term.TheVariants.{Const, Value, Beyond, State}
use Rattle.gx_base.specs.declared.conditions.Cond as code
use Rattle.gx_base.specs.Spots.{beyond, spot_of_call, spot_of_reply}

-- the value at a place among the arguments and the replies
abbrev pub value_of : Made → ℕ → ℤ
value_of m place =
    if place == 0 then m.call.a
    else if place == 1 then m.call.b
    else if place == 2 then m.call.c
    else if place == 3 then m.call.d
    else if place == 4 then m.reply.p
    else if place == 5 then m.reply.q
    else if place == 6 then m.reply.r
    else if place == 7 then m.reply.s
    else pos 0

-- the four values of a call or of its reply as a point
abbrev pub spot_of_part : Part → Made → Made → Spot
spot_of_part ArgFirst first second = spot_of_call first.call
spot_of_part ArgSecond first second = spot_of_call second.call
spot_of_part RepFirst first second = spot_of_reply first.reply
spot_of_part RepSecond first second = spot_of_reply second.reply

-- the value of a term on two calls with their replies
abbrev pub term_value : Term → Made → Made → Seen → ℤ
term_value (Const number) first second seen = number
term_value (Value First place) first second seen = value_of first place
term_value (Value Second place) first second seen = value_of second place
term_value (Beyond x y z) first second seen = if beyond (spot_of_part x first second) (spot_of_part y first second) (spot_of_part z first second) then pos 1 else pos 0
term_value (State First) first second seen = seen.first
term_value (State Second) first second seen = seen.second

-- a condition as a plain tree
pub data Condition : Type 0 where
  True : Condition
  False : Condition
  Eq : (x y : Term) → Condition
  Ne : (x y : Term) → Condition
  Lt : (x y : Term) → Condition
  Le : (x y : Term) → Condition
  And : (x y : Condition) → Condition
  Or : (x y : Condition) → Condition
  Not : (x : Condition) → Condition

-- the tree that a condition of the program stands for
abbrev pub condition_of : code.Cond → Condition
condition_of code.True = True
condition_of code.False = False
condition_of (code.Eq x y) = Eq x y
condition_of (code.Ne x y) = Ne x y
condition_of (code.Lt x y) = Lt x y
condition_of (code.Le x y) = Le x y
condition_of (code.And' p x q y) = And (condition_of x) (condition_of y)
condition_of (code.Or' p x q y) = Or (condition_of x) (condition_of y)
condition_of (code.Not' p x) = Not (condition_of x)

-- the truth of a condition
abbrev pub holds : Condition → Made → Made → Seen → Bool
holds True first second seen = true
holds False first second seen = false
holds (Eq x y) first second seen = int_eq (term_value x first second seen) (term_value y first second seen)
holds (Ne x y) first second seen = not (int_eq (term_value x first second seen) (term_value y first second seen))
holds (Lt x y) first second seen = int_lt (term_value x first second seen) (term_value y first second seen)
holds (Le x y) first second seen = not (int_lt (term_value y first second seen) (term_value x first second seen))
holds (And x y) first second seen = holds x first second seen && holds y first second seen
holds (Or x y) first second seen = holds x first second seen || holds y first second seen
holds (Not x) first second seen = not (holds x first second seen)

-- the condition is the tree `False`
abbrev pub is_false : Condition → Bool
is_false False = true
is_false _ = false
