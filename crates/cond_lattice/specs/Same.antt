-- When two conditions are the same but for the sides of their equations and inequalities.
use Rattle.std.specs.Prelude.{◌==◌, Bool, true, false, ◌&&◌, ◌||◌}
use Rattle.std.specs.Ordering.{int_eq}
use Rattle.gx_base.specs.declared.conditions.Part.{Part}
use Rattle.gx_base.specs.declared.conditions.Part.TheVariants.{ArgFirst, ArgSecond, RepFirst, RepSecond}
use Rattle.gx_base.specs.declared.conditions.Term.{Term}
use Rattle.gx_base.specs.declared.conditions.Term.TheVariants.{Const, Value, Beyond, State}
use Rattle.gx_base.specs.Conditions.{Condition, True, False, Eq, Ne, Lt, Le, And, Or, Not}
use Rattle.gx_base.specs.Below.{same_side}

-- two conditions are equal, but that equations and inequalities in them may have their sides exchanged
pub data Same : Condition → Condition → Type 0 where
  equal : {c : Condition} → Same c c
  equation : {x y : Term} → Same (Eq x y) (Eq y x)
  inequality : {x y : Term} → Same (Ne x y) (Ne y x)
  in_and : {a b c d : Condition} → Same a c → Same b d → Same (And a b) (And c d)
  in_or : {a b c d : Condition} → Same a c → Same b d → Same (Or a b) (Or c d)
  in_not : {a c : Condition} → Same a c → Same (Not a) (Not c)

abbrev pub same_part : Part → Part → Bool
same_part ArgFirst ArgFirst = true
same_part ArgSecond ArgSecond = true
same_part RepFirst RepFirst = true
same_part RepSecond RepSecond = true
same_part _ _ = false

abbrev pub same_term : Term → Term → Bool
same_term (Const m) (Const n) = int_eq m n
same_term (Value s i) (Value t j) = same_side s t && (i == j)
same_term (Beyond x y z) (Beyond u v w) = same_part x u && same_part y v && same_part z w
same_term (State s) (State t) = same_side s t
same_term _ _ = false

-- two pairs of terms are equal, or one is the other exchanged
abbrev pub same_sides : Term → Term → Term → Term → Bool
same_sides x y u v = (same_term x u && same_term y v) || (same_term x v && same_term y u)

-- whether two conditions are the same; that they are exactly where this says so is proved
abbrev pub same_condition : Condition → Condition → Bool
same_condition True True = true
same_condition False False = true
same_condition (Eq x y) (Eq u v) = same_sides x y u v
same_condition (Ne x y) (Ne u v) = same_sides x y u v
same_condition (Lt x y) (Lt u v) = same_term x u && same_term y v
same_condition (Le x y) (Le u v) = same_term x u && same_term y v
same_condition (And a b) (And c d) = same_condition a c && same_condition b d
same_condition (Or a b) (Or c d) = same_condition a c && same_condition b d
same_condition (Not a) (Not c) = same_condition a c
same_condition _ _ = false
