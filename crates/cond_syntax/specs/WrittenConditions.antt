-- Conditions as they are written: their words may name anything.
use Rattle.std.specs.Prelude.{ℕ, ℤ, Bool, suc, max, ◌==◌, bytes_eq, if◌then◌else◌, List, [], ◌∷◌, codes, Option, Some, None}
use Rattle.gx_base.specs.declared.conditions.Side.{Side}
use Rattle.gx_base.specs.declared.conditions.Side.TheVariants.{First, Second}
use Rattle.gx_base.specs.declared.conditions.Part.{Part}
use Rattle.gx_base.specs.declared.conditions.Part.TheVariants.{ArgFirst, ArgSecond, RepFirst, RepSecond}
use Rattle.gx_base.specs.declared.conditions.Term.{Term}
use Rattle.gx_base.specs.declared.conditions.Term.TheVariants.{Const, Value, Beyond, State}
use Rattle.gx_base.specs.Conditions as plain
use Rattle.gx_base.specs.Conditions.{Condition}
use Rattle.gx_base.specs.KnownKinds.{said_of}

-- a term: a number, a word, or `beyond` of three words
pub data WrittenTerm : Type 0 where
  Fixed : ℤ → WrittenTerm
  Named : List ℕ → WrittenTerm
  Far : (x y z : List ℕ) → WrittenTerm

pub data Comparison : Type 0 where
  IsEqual : Comparison
  IsOther : Comparison
  IsLess : Comparison
  IsAtMost : Comparison

-- a condition as a tree
pub data WrittenCondition : Type 0 where
  True : WrittenCondition
  False : WrittenCondition
  Compare : Comparison → (x y : WrittenTerm) → WrittenCondition
  And : (x y : WrittenCondition) → WrittenCondition
  Or : (x y : WrittenCondition) → WrittenCondition
  Not : (x : WrittenCondition) → WrittenCondition

-- how deep the tree is. An atom is 1 deep
abbrev pub depth_of : WrittenCondition → ℕ
depth_of True = 1
depth_of False = 1
depth_of (Compare op x y) = 1
depth_of (And x y) = suc (max (depth_of x) (depth_of y))
depth_of (Or x y) = suc (max (depth_of x) (depth_of y))
depth_of (Not x) = suc (depth_of x)

-- ---- what the words of a kind's conditions name

-- the letters `a b c d p q r s` name the places of a call's values
abbrev pub place_named : ℕ → Option ℕ
place_named letter =
    if letter == 97 then Some 0
    else if letter == 98 then Some 1
    else if letter == 99 then Some 2
    else if letter == 100 then Some 3
    else if letter == 112 then Some 4
    else if letter == 113 then Some 5
    else if letter == 114 then Some 6
    else if letter == 115 then Some 7
    else None

-- the digits 1 (49) and 2 (50) name the calls
abbrev pub side_named : ℕ → Option Side
side_named digit =
    if digit == 49 then Some First
    else if digit == 50 then Some Second
    else None

abbrev pub value_at : Option Side → Option ℕ → Option Term
value_at (Some side) (Some place) = Some (Value side place)
value_at _ _ = None

-- a letter and a digit
abbrev pub value_named : List ℕ → Option Term
value_named (letter ∷ digit ∷ []) = value_at (side_named digit) (place_named letter)
value_named _ = None

-- whether the kind of a number has a state function
abbrev pub has_state_function : ℕ → Bool
has_state_function kind = said_of (λ known. known.has_state_function) kind

-- the state function of one of the calls, where the kind has one
abbrev pub state_named : ℕ → Side → Option Term
state_named kind side = if has_state_function kind then Some (State side) else None

-- what a word names as a term: a value or a state function
abbrev pub term_named : ℕ → List ℕ → Option Term
term_named kind word =
    if bytes_eq word (codes "dom1") then state_named kind First
    else if bytes_eq word (codes "dom2") then state_named kind Second
    else value_named word

-- what a word names in `beyond`
abbrev pub part_named : List ℕ → Option Part
part_named word =
    if bytes_eq word (codes "arg1") then Some ArgFirst
    else if bytes_eq word (codes "arg2") then Some ArgSecond
    else if bytes_eq word (codes "rep1") then Some RepFirst
    else if bytes_eq word (codes "rep2") then Some RepSecond
    else None

-- ---- the condition that a written one stands for, where its words are known

abbrev pub beyond_of : Option Part → Option Part → Option Part → Option Term
beyond_of (Some x) (Some y) (Some z) = Some (Beyond x y z)
beyond_of _ _ _ = None

abbrev pub term_of : ℕ → WrittenTerm → Option Term
term_of kind (Fixed number) = Some (Const number)
term_of kind (Named word) = term_named kind word
term_of kind (Far x y z) = beyond_of (part_named x) (part_named y) (part_named z)

abbrev pub comparison_of : Comparison → Term → Term → Condition
comparison_of IsEqual x y = plain.Eq x y
comparison_of IsOther x y = plain.Ne x y
comparison_of IsLess x y = plain.Lt x y
comparison_of IsAtMost x y = plain.Le x y

abbrev pub compared : Comparison → Option Term → Option Term → Option Condition
compared op (Some x) (Some y) = Some (comparison_of op x y)
compared op _ _ = None

abbrev pub joined : (Condition → Condition → Condition) → Option Condition → Option Condition → Option Condition
joined join (Some x) (Some y) = Some (join x y)
joined join _ _ = None

abbrev pub negated : Option Condition → Option Condition
negated (Some x) = Some (plain.Not x)
negated None = None

-- none where a word isn't known in its place
abbrev pub condition_in : ℕ → WrittenCondition → Option Condition
condition_in kind True = Some plain.True
condition_in kind False = Some plain.False
condition_in kind (Compare op x y) = compared op (term_of kind x) (term_of kind y)
condition_in kind (And x y) = joined plain.And (condition_in kind x) (condition_in kind y)
condition_in kind (Or x y) = joined plain.Or (condition_in kind x) (condition_in kind y)
condition_in kind (Not x) = negated (condition_in kind x)
