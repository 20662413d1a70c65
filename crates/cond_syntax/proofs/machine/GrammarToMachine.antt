-- What the grammar spells is read: the machine passes over the tokens of a term, a unit, a conjunction and a condition,
-- whatever waits for them.
use Rattle.std.specs.Prelude.{◌≡◌, List, [], ◌∷◌, ◌++◌, Option, Some, None, refl}
use Rattle.std.proofs.Common.{sym, ◌∙◌, ap}
use Rattle.cond_syntax.specs.Tokens.{Token, OrKey}
use Rattle.cond_syntax.specs.WrittenConditions.{WrittenTerm, Comparison, WrittenCondition, Compare, Or}
use Rattle.cond_syntax.specs.Grammar as grammar
use Rattle.cond_syntax.specs.Grammar.{IsTerm, IsOperator, IsCondition, IsConjunction, IsUnit}
use Rattle.cond_syntax.proofs.machine.Machine.{Frame, OrLeft, AndLeft, Negation, Group, ReadingState, Operand, OperatorDue, TermDue, Done, unit_done, or_read, group_closed, close_read, step, whole, run}

-- a conjunction may begin here: no `not` and no `and` waits for it
abbrev pub MayConjoin : List Frame → Type 0
MayConjoin [] = Unit {0}
MayConjoin (Group ∷ frames) = Unit {0}
MayConjoin (OrLeft left ∷ frames) = Unit {0}
MayConjoin _ = ⊥

-- a condition may begin here: it is the whole one, or in parentheses
abbrev pub MayBegin : List Frame → Type 0
MayBegin [] = Unit {0}
MayBegin (Group ∷ frames) = Unit {0}
MayBegin _ = ⊥

begins-conjoins : (frames : List Frame) → MayBegin frames → MayConjoin frames
begins-conjoins [] may = tt
begins-conjoins (Group ∷ frames) may = tt
begins-conjoins (OrLeft left ∷ frames) may = tt
begins-conjoins (AndLeft left ∷ frames) may = may
begins-conjoins (Negation ∷ frames) may = may

-- a unit is a conjunction where a conjunction may begin
unit_alone : (c : WrittenCondition) (frames : List Frame) → MayConjoin frames → unit_done c frames ≡ Done c frames
unit_alone c [] may = refl
unit_alone c (Group ∷ frames) may = refl
unit_alone c (OrLeft left ∷ frames) may = refl
unit_alone c (AndLeft left ∷ frames) may = absurd may
unit_alone c (Negation ∷ frames) may = absurd may

-- a conjunction is a condition where a condition may begin
close_alone : (c : WrittenCondition) (frames : List Frame) → MayBegin frames → close_read c frames ≡ group_closed c frames
close_alone c [] may = refl
close_alone c (Group ∷ frames) may = refl
close_alone c (OrLeft left ∷ frames) may = absurd may
close_alone c (AndLeft left ∷ frames) may = absurd may
close_alone c (Negation ∷ frames) may = absurd may

or_alone : (c : WrittenCondition) (frames : List Frame) → MayBegin frames → or_read c frames ≡ Operand (OrLeft c ∷ frames)
or_alone c [] may = refl
or_alone c (Group ∷ frames) may = refl
or_alone c (OrLeft left ∷ frames) may = absurd may
or_alone c (AndLeft left ∷ frames) may = absurd may
or_alone c (Negation ∷ frames) may = absurd may

whole_joined : (c d : WrittenCondition) (frames : List Frame) → MayBegin frames → whole (Done d (OrLeft c ∷ frames)) ≡ whole (Done (Or c d) frames)
whole_joined c d [] may = refl
whole_joined c d (Group ∷ frames) may = refl
whole_joined c d (OrLeft left ∷ frames) may = absurd may
whole_joined c d (AndLeft left ∷ frames) may = absurd may
whole_joined c d (Negation ∷ frames) may = absurd may

-- Where a unit is due with `frames`, the tokens `ps` are read as far as `qs`. What has been read then, `last` with
-- `waiting`, goes on as the condition `c` with `frames` does.
pub record ReadsTo (ps qs : List Token) (c : WrittenCondition) (frames : List Frame) : Type 0 where
  pub last : WrittenCondition
  pub waiting : List Frame
  pub read : run (Some (Operand frames)) ps ≡ run (Some (Done last waiting)) qs
  pub closes : close_read last waiting ≡ group_closed c frames
  pub goes_on : or_read last waiting ≡ Operand (OrLeft c ∷ frames)
  pub ends : whole (Done last waiting) ≡ whole (Done c frames)

first_term : {ps qs : List Token} {x : WrittenTerm} → IsTerm ps qs x → (frames : List Frame) → run (Some (Operand frames)) ps ≡ run (Some (OperatorDue x frames)) qs
first_term grammar.number frames = refl
first_term grammar.word frames = refl
first_term grammar.beyond frames = refl

second_term : {ps qs : List Token} {y : WrittenTerm} → IsTerm ps qs y → (x : WrittenTerm) (op : Comparison) (frames : List Frame)
    → run (Some (TermDue x op frames)) ps ≡ run (Some (unit_done (Compare op x y) frames)) qs
second_term grammar.number x op frames = refl
second_term grammar.word x op frames = refl
second_term grammar.beyond x op frames = refl

operator : {o : Token} {op : Comparison} → IsOperator o op → (x : WrittenTerm) (frames : List Frame) → step (OperatorDue x frames) o ≡ Some (TermDue x op frames)
operator grammar.equal x frames = refl
operator grammar.differ x frames = refl
operator grammar.less x frames = refl
operator grammar.at_most x frames = refl

conjunction_reads : {ps qs : List Token} {c : WrittenCondition} (frames : List Frame) → MayBegin frames
    → run (Some (Operand frames)) ps ≡ run (Some (Done c frames)) qs → ReadsTo ps qs c frames
conjunction_reads {c} frames may read = record {
  last = c;
  waiting = frames;
  read = read;
  closes = close_alone c frames may;
  goes_on = or_alone c frames may;
  ends = refl;
}

or_reads : {ps qs rs : List Token} {c d : WrittenCondition} (frames : List Frame) → MayBegin frames → ReadsTo ps (OrKey ∷ qs) c frames
    → run (Some (Operand (OrLeft c ∷ frames))) qs ≡ run (Some (Done d (OrLeft c ∷ frames))) rs → ReadsTo ps rs (Or c d) frames
or_reads {qs} {c} {d} frames may first second = record {
  last = d;
  waiting = OrLeft c ∷ frames;
  read = first.read ∙ ap (λ s. run (Some s) qs) first.goes_on ∙ second;
  closes = refl;
  goes_on = refl;
  ends = whole_joined c d frames may;
}

mutual
  pub unit_reads : {ps qs : List Token} {c : WrittenCondition} → IsUnit ps qs c → (frames : List Frame) → run (Some (Operand frames)) ps ≡ run (Some (unit_done c frames)) qs
  unit_reads (grammar.not h) frames = unit_reads h (Negation ∷ frames)
  unit_reads (grammar.group {qs} h) frames = let inner = condition_reads h (Group ∷ frames) tt in inner.read ∙ ap (λ s. run s qs) inner.closes
  unit_reads grammar.true frames = refl
  unit_reads grammar.false frames = refl
  unit_reads (grammar.compare {qs} {o} {op} {x} h k l) frames = first_term h frames ∙ ap (λ s. run s qs) (operator k x frames) ∙ second_term l x op frames

  conjunction_reads_to : {ps qs : List Token} {c : WrittenCondition} → IsConjunction ps qs c → (frames : List Frame) → MayConjoin frames
      → run (Some (Operand frames)) ps ≡ run (Some (Done c frames)) qs
  conjunction_reads_to (grammar.unit {qs} {c} h) frames may = unit_reads h frames ∙ ap (λ s. run (Some s) qs) (unit_alone c frames may)
  conjunction_reads_to (grammar.and {c} h k) frames may = conjunction_reads_to h frames may ∙ unit_reads k (AndLeft c ∷ frames)

  pub condition_reads : {ps qs : List Token} {c : WrittenCondition} → IsCondition ps qs c → (frames : List Frame) → MayBegin frames → ReadsTo ps qs c frames
  condition_reads (grammar.conjunction h) frames may = conjunction_reads frames may (conjunction_reads_to h frames (begins-conjoins frames may))
  condition_reads (grammar.or {c} h k) frames may = or_reads frames may (condition_reads h frames may) (conjunction_reads_to k (OrLeft c ∷ frames) tt)

-- what is read as a whole condition from the start
pub spelled_runs : {ts : List Token} {c : WrittenCondition} → IsCondition ts [] c → (s : ReadingState) × (run (Some (Operand [])) ts ≡ Some s) × (whole s ≡ Some c)
spelled_runs h = let all = condition_reads h [] tt in (Done all.last all.waiting, all.read, all.ends)

-- ---- reading in two parts

pub run_none : (ts : List Token) → run None ts ≡ None
run_none [] = refl
run_none (t ∷ ts) = refl

pub run_append : (state : Option ReadingState) (ts more : List Token) → run state (ts ++ more) ≡ run (run state ts) more
run_append state [] more = refl
run_append None (t ∷ ts) more = sym (run_none more)
run_append (Some state) (t ∷ ts) more = run_append (step state t) ts more
