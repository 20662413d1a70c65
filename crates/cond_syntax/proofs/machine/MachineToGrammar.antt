-- What is read is spelled: at each state the tokens that have been read are parts of a condition, as the state's frames say.
use Rattle.std.specs.Prelude.{◌≡◌, ℕ, List, [], ◌∷◌, ◌++◌, Option, Some, None, refl}
use Rattle.std.proofs.Common.{sym, subst}
use Rattle.cond_syntax.specs.Tokens.{Token, Word, Number, OrKey, AndKey, NotKey, TrueKey, FalseKey, BeyondKey, Open, Close, Comma, Equal, Differ, Less, AtMost}
use Rattle.cond_syntax.specs.WrittenConditions.{WrittenTerm, Fixed, Named, Far, Comparison, WrittenCondition, True, False, Compare, Or, Not}
use Rattle.cond_syntax.specs.Grammar as grammar
use Rattle.cond_syntax.specs.Grammar.{IsTerm, IsOperator, IsCondition, IsConjunction, IsUnit}
use Rattle.cond_syntax.proofs.machine.Machine.{Frame, OrLeft, AndLeft, Negation, Group, Due, First, Second, ReadingState, Operand, OperatorDue, TermDue, OpenDue, FirstDue, FirstDone, SecondDue, SecondDone, ThirdDue, ThirdDone, Done, unit_done, term_done, or_read, group_closed, close_read, operator_read, operand_read, term_read, conjunction_read, open_read, word_read, comma_read, close_due, step, whole, run}
use Rattle.cond_syntax.proofs.machine.GrammarToMachine.{MayConjoin, MayBegin}

-- Of all the tokens, those in front of `rest` are what the frames say: the first of the frames stands just in front of
-- `rest`.
abbrev pub Waits : List Token → List Frame → List Token → Type 0
Waits all [] rest = all ≡ rest
Waits all (Group ∷ frames) rest = Waits all frames (Open ∷ rest)
Waits all (Negation ∷ frames) rest = Waits all frames (NotKey ∷ rest)
Waits all (AndLeft left ∷ frames) rest = (from : List Token) × Waits all frames from × IsConjunction from (AndKey ∷ rest) left × MayConjoin frames
Waits all (OrLeft left ∷ frames) rest = (from : List Token) × Waits all frames from × IsCondition from (OrKey ∷ rest) left × MayBegin frames

-- a term, an operator and a second term, which is due at `rest`, are a unit
abbrev pub Compares : List Token → WrittenTerm → Comparison → List Frame → List Token → Type 0
Compares all x op frames rest =
    (from : List Token) × Waits all frames from × ((y : WrittenTerm) (after : List Token) → IsTerm rest after y → IsUnit from after (Compare op x y))

-- a term is due at `rest`
abbrev pub AwaitsTerm : List Token → Due → List Frame → List Token → Type 0
AwaitsTerm all First frames rest = Waits all frames rest
AwaitsTerm all (Second x op) frames rest = Compares all x op frames rest

-- of all the tokens, those in front of `rest` are what the state says
abbrev pub Holds : List Token → ReadingState → List Token → Type 0
Holds all (Operand frames) rest = Waits all frames rest
Holds all (OperatorDue x frames) rest = (from : List Token) × Waits all frames from × IsTerm from rest x
Holds all (TermDue x op frames) rest = Compares all x op frames rest
Holds all (OpenDue due frames) rest = AwaitsTerm all due frames (BeyondKey ∷ rest)
Holds all (FirstDue due frames) rest = AwaitsTerm all due frames (BeyondKey ∷ Open ∷ rest)
Holds all (FirstDone x due frames) rest = AwaitsTerm all due frames (BeyondKey ∷ Open ∷ Word x ∷ rest)
Holds all (SecondDue x due frames) rest = AwaitsTerm all due frames (BeyondKey ∷ Open ∷ Word x ∷ Comma ∷ rest)
Holds all (SecondDone x y due frames) rest = AwaitsTerm all due frames (BeyondKey ∷ Open ∷ Word x ∷ Comma ∷ Word y ∷ rest)
Holds all (ThirdDue x y due frames) rest = AwaitsTerm all due frames (BeyondKey ∷ Open ∷ Word x ∷ Comma ∷ Word y ∷ Comma ∷ rest)
Holds all (ThirdDone x y z due frames) rest = AwaitsTerm all due frames (BeyondKey ∷ Open ∷ Word x ∷ Comma ∷ Word y ∷ Comma ∷ Word z ∷ rest)
Holds all (Done c frames) rest = (from : List Token) × Waits all frames from × IsConjunction from rest c × MayConjoin frames

abbrev pub HoldsIfAny : List Token → Option ReadingState → List Token → Type 0
HoldsIfAny all None rest = Unit {0}
HoldsIfAny all (Some state) rest = Holds all state rest

-- ---- each step keeps it

unit_holds : (all from rest : List Token) (c : WrittenCondition) (frames : List Frame) → Waits all frames from → IsUnit from rest c → Holds all (unit_done c frames) rest
unit_holds all from rest c [] waits h = (from, waits, grammar.unit h, tt)
unit_holds all from rest c (Negation ∷ frames) waits h = unit_holds all (NotKey ∷ from) rest (Not c) frames waits (grammar.not h)
unit_holds all from rest c (AndLeft left ∷ frames) waits h = (waits.0, waits.1, grammar.and waits.2 h, waits.3)
unit_holds all from rest c (OrLeft left ∷ frames) waits h = (from, waits, grammar.unit h, tt)
unit_holds all from rest c (Group ∷ frames) waits h = (from, waits, grammar.unit h, tt)

term_holds : (all from rest : List Token) (x : WrittenTerm) (due : Due) (frames : List Frame) → AwaitsTerm all due frames from → IsTerm from rest x
    → Holds all (term_done x due frames) rest
term_holds all from rest x First frames waits h = (from, waits, h)
term_holds all from rest x (Second y op) frames waits h = unit_holds all waits.0 rest (Compare op y x) frames waits.1 (waits.2 x rest h)

group_holds : (all from rest : List Token) (c : WrittenCondition) (frames : List Frame) → Waits all frames from → IsCondition from (Close ∷ rest) c
    → HoldsIfAny all (group_closed c frames) rest
group_holds all from rest c [] waits h = tt
group_holds all from rest c (Negation ∷ frames) waits h = tt
group_holds all from rest c (AndLeft left ∷ frames) waits h = tt
group_holds all from rest c (OrLeft left ∷ frames) waits h = tt
group_holds all from rest c (Group ∷ frames) waits h = unit_holds all (Open ∷ from) rest c frames waits (grammar.group h)

close_holds : (all rest : List Token) (c : WrittenCondition) (frames : List Frame) → Holds all (Done c frames) (Close ∷ rest) → HoldsIfAny all (close_read c frames) rest
close_holds all rest c [] holds = tt
close_holds all rest c (Negation ∷ frames) holds = tt
close_holds all rest c (AndLeft left ∷ frames) holds = tt
close_holds all rest c (OrLeft left ∷ frames) holds = let left_side = holds.1 in
    group_holds all left_side.0 rest (Or left c) frames left_side.1 (grammar.or left_side.2 holds.2)
close_holds all rest c (Group ∷ frames) holds = group_holds all holds.0 rest c (Group ∷ frames) holds.1 (grammar.conjunction holds.2)

or_holds : (all rest : List Token) (c : WrittenCondition) (frames : List Frame) → Holds all (Done c frames) (OrKey ∷ rest) → Holds all (or_read c frames) rest
or_holds all rest c [] holds = (holds.0, holds.1, grammar.conjunction holds.2, tt)
or_holds all rest c (Negation ∷ frames) holds = absurd holds.3
or_holds all rest c (AndLeft left ∷ frames) holds = absurd holds.3
or_holds all rest c (OrLeft left ∷ frames) holds = let left_side = holds.1 in (left_side.0, left_side.1, grammar.or left_side.2 holds.2, left_side.3)
or_holds all rest c (Group ∷ frames) holds = (holds.0, holds.1, grammar.conjunction holds.2, tt)

operand_holds : (all rest : List Token) (frames : List Frame) (t : Token) → Waits all frames (t ∷ rest) → HoldsIfAny all (operand_read frames t) rest
operand_holds all rest frames NotKey waits = waits
operand_holds all rest frames Open waits = waits
operand_holds all rest frames TrueKey waits = unit_holds all (TrueKey ∷ rest) rest True frames waits grammar.true
operand_holds all rest frames FalseKey waits = unit_holds all (FalseKey ∷ rest) rest False frames waits grammar.false
operand_holds all rest frames (Number number) waits = (Number number ∷ rest, waits, grammar.number)
operand_holds all rest frames (Word word) waits = (Word word ∷ rest, waits, grammar.word)
operand_holds all rest frames BeyondKey waits = waits
operand_holds all rest frames _ waits = tt

operator_holds : (all rest : List Token) (x : WrittenTerm) (frames : List Frame) (t : Token) → Holds all (OperatorDue x frames) (t ∷ rest)
    → HoldsIfAny all (operator_read x frames t) rest
operator_holds all rest x frames Equal holds = (holds.0, holds.1, λ y after term. grammar.compare holds.2 grammar.equal term)
operator_holds all rest x frames Differ holds = (holds.0, holds.1, λ y after term. grammar.compare holds.2 grammar.differ term)
operator_holds all rest x frames Less holds = (holds.0, holds.1, λ y after term. grammar.compare holds.2 grammar.less term)
operator_holds all rest x frames AtMost holds = (holds.0, holds.1, λ y after term. grammar.compare holds.2 grammar.at_most term)
operator_holds all rest x frames _ holds = tt

term_read_holds : (all rest : List Token) (x : WrittenTerm) (op : Comparison) (frames : List Frame) (t : Token) → Compares all x op frames (t ∷ rest)
    → HoldsIfAny all (term_read x op frames t) rest
term_read_holds all rest x op frames (Number number) holds = term_holds all (Number number ∷ rest) rest (Fixed number) (Second x op) frames holds grammar.number
term_read_holds all rest x op frames (Word word) holds = term_holds all (Word word ∷ rest) rest (Named word) (Second x op) frames holds grammar.word
term_read_holds all rest x op frames BeyondKey holds = holds
term_read_holds all rest x op frames _ holds = tt

conjunction_holds : (all rest : List Token) (c : WrittenCondition) (frames : List Frame) (t : Token) → Holds all (Done c frames) (t ∷ rest)
    → HoldsIfAny all (conjunction_read c frames t) rest
conjunction_holds all rest c frames AndKey holds = holds
conjunction_holds all rest c frames OrKey holds = or_holds all rest c frames holds
conjunction_holds all rest c frames Close holds = close_holds all rest c frames holds
conjunction_holds all rest c frames _ holds = tt

-- the signs and words of `beyond`: it is enough to look at the token that is due
open_holds : (all rest : List Token) (due : Due) (frames : List Frame) (t : Token) → Holds all (OpenDue due frames) (t ∷ rest)
    → HoldsIfAny all (open_read (FirstDue due frames) t) rest
open_holds all rest due frames Open holds = holds
open_holds all rest due frames _ holds = tt

word_holds : (all rest : List Token) (next : List ℕ → ReadingState) (t : Token) → ((word : List ℕ) → t ≡ Word word → Holds all (next word) rest)
    → HoldsIfAny all (word_read next t) rest
word_holds all rest next (Word word) holds = holds word refl
word_holds all rest next _ holds = tt

comma_holds : (all rest : List Token) (next : ReadingState) (t : Token) → (t ≡ Comma → Holds all next rest) → HoldsIfAny all (comma_read next t) rest
comma_holds all rest next Comma holds = holds refl
comma_holds all rest next _ holds = tt

closing_holds : (all rest : List Token) (next : ReadingState) (t : Token) → (t ≡ Close → Holds all next rest) → HoldsIfAny all (close_due next t) rest
closing_holds all rest next Close holds = holds refl
closing_holds all rest next _ holds = tt

-- one of the tokens of a term that is due has turned out to be another one
at_token : (all : List Token) (due : Due) (frames : List Frame) (place : Token → List Token) (t u : Token) → t ≡ u → AwaitsTerm all due frames (place t)
    → AwaitsTerm all due frames (place u)
at_token all due frames place t u same = let Place : Token → Type 0 = λ v. AwaitsTerm all due frames (place v) in subst Place same

step_holds : (all rest : List Token) (state : ReadingState) (t : Token) → Holds all state (t ∷ rest) → HoldsIfAny all (step state t) rest
step_holds all rest (Operand frames) t holds = operand_holds all rest frames t holds
step_holds all rest (OperatorDue x frames) t holds = operator_holds all rest x frames t holds
step_holds all rest (TermDue x op frames) t holds = term_read_holds all rest x op frames t holds
step_holds all rest (OpenDue due frames) t holds = open_holds all rest due frames t holds
step_holds all rest (FirstDue due frames) t holds =
    word_holds all rest (λ x. FirstDone x due frames) t (λ x same. at_token all due frames (λ u. BeyondKey ∷ Open ∷ u ∷ rest) t (Word x) same holds)
step_holds all rest (FirstDone x due frames) t holds =
    comma_holds all rest (SecondDue x due frames) t (λ same. at_token all due frames (λ u. BeyondKey ∷ Open ∷ Word x ∷ u ∷ rest) t Comma same holds)
step_holds all rest (SecondDue x due frames) t holds =
    word_holds all rest (λ y. SecondDone x y due frames) t (λ y same. at_token all due frames (λ u. BeyondKey ∷ Open ∷ Word x ∷ Comma ∷ u ∷ rest) t (Word y) same holds)
step_holds all rest (SecondDone x y due frames) t holds =
    comma_holds all rest (ThirdDue x y due frames) t (λ same. at_token all due frames (λ u. BeyondKey ∷ Open ∷ Word x ∷ Comma ∷ Word y ∷ u ∷ rest) t Comma same holds)
step_holds all rest (ThirdDue x y due frames) t holds =
    word_holds all rest (λ z. ThirdDone x y z due frames) t (λ z same. at_token all due frames (λ u. BeyondKey ∷ Open ∷ Word x ∷ Comma ∷ Word y ∷ Comma ∷ u ∷ rest) t (Word z) same holds)
step_holds all rest (ThirdDone x y z due frames) t holds =
    closing_holds all rest (term_done (Far x y z) due frames) t
    (λ same. term_holds all (BeyondKey ∷ Open ∷ Word x ∷ Comma ∷ Word y ∷ Comma ∷ Word z ∷ Close ∷ rest) rest (Far x y z) due frames
    (at_token all due frames (λ u. BeyondKey ∷ Open ∷ Word x ∷ Comma ∷ Word y ∷ Comma ∷ Word z ∷ u ∷ rest) t Close same holds) grammar.beyond)
step_holds all rest (Done c frames) t holds = conjunction_holds all rest c frames t holds

pub run_holds : (all ts more : List Token) (state : Option ReadingState) → HoldsIfAny all state (ts ++ more) → HoldsIfAny all (run state ts) more
run_holds all [] more state holds = holds
run_holds all (t ∷ ts) more None holds = tt
run_holds all (t ∷ ts) more (Some state) holds = run_holds all ts more (step state t) (step_holds all (ts ++ more) state t holds)

-- ---- what is whole is a condition

abbrev pub IsSpelledIfAny : List Token → Option WrittenCondition → Type 0
IsSpelledIfAny all None = Unit {0}
IsSpelledIfAny all (Some c) = IsCondition all [] c

from_start : (all from : List Token) (c : WrittenCondition) → all ≡ from → IsCondition from [] c → IsCondition all [] c
from_start all from c same = let Spelled : List Token → Type 0 = λ ts. IsCondition ts [] c in subst Spelled (sym same)

pub whole_holds : (all : List Token) (state : ReadingState) → Holds all state [] → IsSpelledIfAny all (whole state)
whole_holds all (Done c []) holds = from_start all holds.0 c holds.1 (grammar.conjunction holds.2)
whole_holds all (Done c (OrLeft left ∷ [])) holds = let left_side = holds.1 in from_start all left_side.0 (Or left c) left_side.1 (grammar.or left_side.2 holds.2)
whole_holds all _ holds = tt
