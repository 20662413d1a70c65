-- How a condition is read from token to token. What conditions are stands in the grammar, not here: that this finds just what
-- the grammar spells is proved beside it, and by it that tokens spell one condition at most.
use Rattle.std.specs.Prelude.{ℕ, Bool, true, false, List, [], ◌∷◌, Option, Some, None}
use Rattle.cond_syntax.specs.Tokens.{Token, Word, Number, OrKey, AndKey, NotKey, TrueKey, FalseKey, BeyondKey, Open, Close, Comma, Equal, Differ, Less, AtMost}
use Rattle.cond_syntax.specs.Fronts.{front_of, is_cut}
use Rattle.cond_syntax.specs.WrittenConditions.{WrittenTerm, Fixed, Named, Far, Comparison, IsEqual, IsOther, IsLess, IsAtMost, WrittenCondition, True, False, Compare, And, Or, Not}

-- what waits for its right side, the innermost first: an `or` and an `and` with their left sides, a `not`, and an open parenthesis
pub data Frame : Type 0 where
  OrLeft : WrittenCondition → Frame
  AndLeft : WrittenCondition → Frame
  Negation : Frame
  Group : Frame

-- which term of a comparison is read
pub data Due : Type 0 where
  First : Due
  Second : WrittenTerm → Comparison → Due

-- What has been read: it ends where a unit, an operator, or a second term is due; inside of `beyond`, after each of
-- its signs; or after a conjunction, which may be whole.
pub data ReadingState : Type 0 where
  Operand : List Frame → ReadingState
  OperatorDue : WrittenTerm → List Frame → ReadingState
  TermDue : WrittenTerm → Comparison → List Frame → ReadingState
  OpenDue : Due → List Frame → ReadingState
  FirstDue : Due → List Frame → ReadingState
  FirstDone : (x : List ℕ) → Due → List Frame → ReadingState
  SecondDue : (x : List ℕ) → Due → List Frame → ReadingState
  SecondDone : (x y : List ℕ) → Due → List Frame → ReadingState
  ThirdDue : (x y : List ℕ) → Due → List Frame → ReadingState
  ThirdDone : (x y z : List ℕ) → Due → List Frame → ReadingState
  Done : WrittenCondition → List Frame → ReadingState

-- a unit has been read
abbrev pub unit_done : WrittenCondition → List Frame → ReadingState
unit_done c [] = Done c []
unit_done c (Negation ∷ frames) = unit_done (Not c) frames
unit_done c (AndLeft left ∷ frames) = Done (And left c) frames
unit_done c (OrLeft left ∷ frames) = Done c (OrLeft left ∷ frames)
unit_done c (Group ∷ frames) = Done c (Group ∷ frames)

-- a term has been read
abbrev pub term_done : WrittenTerm → Due → List Frame → ReadingState
term_done x First frames = OperatorDue x frames
term_done y (Second x op) frames = unit_done (Compare op x y) frames

-- an `or` has been read after a conjunction
abbrev pub or_read : WrittenCondition → List Frame → ReadingState
or_read c (OrLeft left ∷ frames) = Operand (OrLeft (Or left c) ∷ frames)
or_read c frames = Operand (OrLeft c ∷ frames)

-- a parenthesis has been closed after a condition
abbrev pub group_closed : WrittenCondition → List Frame → Option ReadingState
group_closed c (Group ∷ frames) = Some (unit_done c frames)
group_closed c _ = None

-- a parenthesis has been closed after a conjunction
abbrev pub close_read : WrittenCondition → List Frame → Option ReadingState
close_read c (OrLeft left ∷ frames) = group_closed (Or left c) frames
close_read c frames = group_closed c frames

abbrev pub operator_read : WrittenTerm → List Frame → Token → Option ReadingState
operator_read x frames Equal = Some (TermDue x IsEqual frames)
operator_read x frames Differ = Some (TermDue x IsOther frames)
operator_read x frames Less = Some (TermDue x IsLess frames)
operator_read x frames AtMost = Some (TermDue x IsAtMost frames)
operator_read x frames _ = None

-- a token where a unit is due
abbrev pub operand_read : List Frame → Token → Option ReadingState
operand_read frames NotKey = Some (Operand (Negation ∷ frames))
operand_read frames Open = Some (Operand (Group ∷ frames))
operand_read frames TrueKey = Some (unit_done True frames)
operand_read frames FalseKey = Some (unit_done False frames)
operand_read frames (Number number) = Some (OperatorDue (Fixed number) frames)
operand_read frames (Word word) = Some (OperatorDue (Named word) frames)
operand_read frames BeyondKey = Some (OpenDue First frames)
operand_read frames _ = None

-- a token where the second term of a comparison is due
abbrev pub term_read : WrittenTerm → Comparison → List Frame → Token → Option ReadingState
term_read x op frames (Number number) = Some (unit_done (Compare op x (Fixed number)) frames)
term_read x op frames (Word word) = Some (unit_done (Compare op x (Named word)) frames)
term_read x op frames BeyondKey = Some (OpenDue (Second x op) frames)
term_read x op frames _ = None

-- a token after a conjunction
abbrev pub conjunction_read : WrittenCondition → List Frame → Token → Option ReadingState
conjunction_read c frames AndKey = Some (Operand (AndLeft c ∷ frames))
conjunction_read c frames OrKey = Some (or_read c frames)
conjunction_read c frames Close = close_read c frames
conjunction_read c frames _ = None

abbrev pub open_read : ReadingState → Token → Option ReadingState
open_read next Open = Some next
open_read next _ = None

abbrev pub word_read : (List ℕ → ReadingState) → Token → Option ReadingState
word_read next (Word word) = Some (next word)
word_read next _ = None

abbrev pub comma_read : ReadingState → Token → Option ReadingState
comma_read next Comma = Some next
comma_read next _ = None

abbrev pub close_due : ReadingState → Token → Option ReadingState
close_due next Close = Some next
close_due next _ = None

-- the state after one more token, and none where it can't stand there
abbrev pub step : ReadingState → Token → Option ReadingState
step (Operand frames) t = operand_read frames t
step (OperatorDue x frames) t = operator_read x frames t
step (TermDue x op frames) t = term_read x op frames t
step (OpenDue due frames) t = open_read (FirstDue due frames) t
step (FirstDue due frames) t = word_read (λ x. FirstDone x due frames) t
step (FirstDone x due frames) t = comma_read (SecondDue x due frames) t
step (SecondDue x due frames) t = word_read (λ y. SecondDone x y due frames) t
step (SecondDone x y due frames) t = comma_read (ThirdDue x y due frames) t
step (ThirdDue x y due frames) t = word_read (λ z. ThirdDone x y z due frames) t
step (ThirdDone x y z due frames) t = close_due (term_done (Far x y z) due frames) t
step (Done c frames) t = conjunction_read c frames t

-- the condition that has been read, where it is whole
abbrev pub whole : ReadingState → Option WrittenCondition
whole (Done c []) = Some c
whole (Done c (OrLeft left ∷ [])) = Some (Or left c)
whole _ = None

-- what reading comes to: no condition, a condition as far as it is read, or a whole condition
pub data Reading : Type 0 where
  Wrong : Reading
  Cut : Reading
  Whole : WrittenCondition → Reading

abbrev pub whole_or_wrong : Option WrittenCondition → Reading
whole_or_wrong None = Wrong
whole_or_wrong (Some c) = Whole c

-- reading ends in this state, at the place where it is cut or at the end
abbrev pub ending : Bool → ReadingState → Reading
ending true state = Cut
ending false state = whole_or_wrong (whole state)

-- the state after these tokens, and none where one of them can't stand in its place
abbrev pub run : Option ReadingState → List Token → Option ReadingState
run state [] = state
run None (t ∷ ts) = None
run (Some state) (t ∷ ts) = run (step state t) ts

abbrev pub ended : Bool → Option ReadingState → Reading
ended cut None = Wrong
ended cut (Some state) = ending cut state

-- what reading the tokens from a state on comes to, where they are cut at their end or not
abbrev pub read_from : Bool → ReadingState → List Token → Reading
read_from cut state ts = ended cut (run (Some state) ts)

-- what reading the tokens of a condition comes to
abbrev pub reading_of : List Token → Reading
reading_of ts = read_from (is_cut ts) (Operand []) (front_of ts)
