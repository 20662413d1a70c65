-- Whatever has been read can go on to a whole condition.
use Rattle.std.specs.Prelude.{◌≡◌, ℕ, pos, List, [], ◌∷◌}
use Rattle.std.proofs.Common.{sym, subst}
use Rattle.cond_syntax.specs.Tokens.{Token, Word, Number, NotKey, TrueKey, BeyondKey, Open, Close, Comma, Equal}
use Rattle.cond_syntax.specs.WrittenConditions.{WrittenTerm, Far, WrittenCondition, True, Compare, And, Or, Not, IsEqual, Fixed}
use Rattle.cond_syntax.specs.Grammar as grammar
use Rattle.cond_syntax.specs.Grammar.{IsTerm, IsCondition, IsConjunction, IsUnit}
use Rattle.cond_syntax.proofs.machine.Machine.{Frame, OrLeft, AndLeft, Negation, Group, Due, First, Second, ReadingState, Operand, OperatorDue, TermDue, OpenDue, FirstDue, FirstDone, SecondDue, SecondDone, ThirdDue, ThirdDone, Done}
use Rattle.cond_syntax.proofs.machine.GrammarToMachine.{MayConjoin, MayBegin}
use Rattle.cond_syntax.proofs.machine.MachineToGrammar.{Waits, AwaitsTerm, Holds}

-- the parentheses that close what is open
abbrev pub closings : List Frame → List Token
closings [] = []
closings (Group ∷ frames) = Close ∷ closings frames
closings (_ ∷ frames) = closings frames

-- what may follow a term
abbrev pub after_term : Due → List Frame → List Token
after_term First frames = Equal ∷ Number (pos 0) ∷ closings frames
after_term (Second x op) frames = closings frames

-- tokens with which reading can go on to a whole condition
abbrev pub rest_of : ReadingState → List Token
rest_of (Operand frames) = TrueKey ∷ closings frames
rest_of (OperatorDue x frames) = Equal ∷ Number (pos 0) ∷ closings frames
rest_of (TermDue x op frames) = Number (pos 0) ∷ closings frames
rest_of (OpenDue due frames) = Open ∷ Word [] ∷ Comma ∷ Word [] ∷ Comma ∷ Word [] ∷ Close ∷ after_term due frames
rest_of (FirstDue due frames) = Word [] ∷ Comma ∷ Word [] ∷ Comma ∷ Word [] ∷ Close ∷ after_term due frames
rest_of (FirstDone x due frames) = Comma ∷ Word [] ∷ Comma ∷ Word [] ∷ Close ∷ after_term due frames
rest_of (SecondDue x due frames) = Word [] ∷ Comma ∷ Word [] ∷ Close ∷ after_term due frames
rest_of (SecondDone x y due frames) = Comma ∷ Word [] ∷ Close ∷ after_term due frames
rest_of (ThirdDue x y due frames) = Word [] ∷ Close ∷ after_term due frames
rest_of (ThirdDone x y z due frames) = Close ∷ after_term due frames
rest_of (Done c frames) = closings frames

-- these tokens spell some condition
pub record SpellsSome (all : List Token) : Type 0 where
  pub tree : WrittenCondition
  pub spelled : IsCondition all [] tree

spells : (all from : List Token) (c : WrittenCondition) → all ≡ from → IsCondition from [] c → SpellsSome all
spells all from c same h = let Spelled : List Token → Type 0 = λ ts. IsCondition ts [] c in record { tree = c; spelled = subst Spelled (sym same) h }

mutual
  unit_goes_on : (all from : List Token) (c : WrittenCondition) (frames : List Frame) → Waits all frames from → IsUnit from (closings frames) c → SpellsSome all
  unit_goes_on all from c [] waits h = spells all from c waits (grammar.conjunction (grammar.unit h))
  unit_goes_on all from c (Group ∷ frames) waits h = unit_goes_on all (Open ∷ from) c frames waits (grammar.group (grammar.conjunction (grammar.unit h)))
  unit_goes_on all from c (Negation ∷ frames) waits h = unit_goes_on all (NotKey ∷ from) (Not c) frames waits (grammar.not h)
  unit_goes_on all from c (AndLeft left ∷ frames) waits h = conjunction_goes_on all waits.0 (And left c) frames waits.1 waits.3 (grammar.and waits.2 h)
  unit_goes_on all from c (OrLeft left ∷ frames) waits h = condition_goes_on all waits.0 (Or left c) frames waits.1 waits.3 (grammar.or waits.2 (grammar.unit h))

  conjunction_goes_on : (all from : List Token) (c : WrittenCondition) (frames : List Frame) → Waits all frames from → MayConjoin frames
      → IsConjunction from (closings frames) c → SpellsSome all
  conjunction_goes_on all from c [] waits may h = spells all from c waits (grammar.conjunction h)
  conjunction_goes_on all from c (Group ∷ frames) waits may h = unit_goes_on all (Open ∷ from) c frames waits (grammar.group (grammar.conjunction h))
  conjunction_goes_on all from c (Negation ∷ frames) waits may h = absurd may
  conjunction_goes_on all from c (AndLeft left ∷ frames) waits may h = absurd may
  conjunction_goes_on all from c (OrLeft left ∷ frames) waits may h = condition_goes_on all waits.0 (Or left c) frames waits.1 waits.3 (grammar.or waits.2 h)

  condition_goes_on : (all from : List Token) (c : WrittenCondition) (frames : List Frame) → Waits all frames from → MayBegin frames
      → IsCondition from (closings frames) c → SpellsSome all
  condition_goes_on all from c [] waits may h = spells all from c waits h
  condition_goes_on all from c (Group ∷ frames) waits may h = unit_goes_on all (Open ∷ from) c frames waits (grammar.group h)
  condition_goes_on all from c (Negation ∷ frames) waits may h = absurd may
  condition_goes_on all from c (AndLeft left ∷ frames) waits may h = absurd may
  condition_goes_on all from c (OrLeft left ∷ frames) waits may h = absurd may

operator_goes_on : (all from : List Token) (x : WrittenTerm) (frames : List Frame) → Waits all frames from
    → IsTerm from (Equal ∷ Number (pos 0) ∷ closings frames) x → SpellsSome all
operator_goes_on all from x frames waits h =
    unit_goes_on all from (Compare IsEqual x (Fixed (pos 0))) frames waits (grammar.compare h grammar.equal grammar.number)

beyond_goes_on : (all : List Token) (x y z : List ℕ) (due : Due) (frames : List Frame)
    → AwaitsTerm all due frames (BeyondKey ∷ Open ∷ Word x ∷ Comma ∷ Word y ∷ Comma ∷ Word z ∷ Close ∷ after_term due frames) → SpellsSome all
beyond_goes_on all x y z First frames waits = operator_goes_on all _ (Far x y z) frames waits grammar.beyond
beyond_goes_on all x y z (Second left op) frames waits = unit_goes_on all waits.0 (Compare op left (Far x y z)) frames waits.1 (waits.2 (Far x y z) (closings frames) grammar.beyond)

pub goes_on : (all : List Token) (state : ReadingState) → Holds all state (rest_of state) → SpellsSome all
goes_on all (Operand frames) holds = unit_goes_on all (TrueKey ∷ closings frames) True frames holds grammar.true
goes_on all (OperatorDue x frames) holds = operator_goes_on all holds.0 x frames holds.1 holds.2
goes_on all (TermDue x op frames) holds = unit_goes_on all holds.0 (Compare op x (Fixed (pos 0))) frames holds.1 (holds.2 (Fixed (pos 0)) (closings frames) grammar.number)
goes_on all (OpenDue due frames) holds = beyond_goes_on all [] [] [] due frames holds
goes_on all (FirstDue due frames) holds = beyond_goes_on all [] [] [] due frames holds
goes_on all (FirstDone x due frames) holds = beyond_goes_on all x [] [] due frames holds
goes_on all (SecondDue x due frames) holds = beyond_goes_on all x [] [] due frames holds
goes_on all (SecondDone x y due frames) holds = beyond_goes_on all x y [] due frames holds
goes_on all (ThirdDue x y due frames) holds = beyond_goes_on all x y [] due frames holds
goes_on all (ThirdDone x y z due frames) holds = beyond_goes_on all x y z due frames holds
goes_on all (Done c frames) holds = conjunction_goes_on all holds.0 c frames holds.1 holds.3 holds.2
