-- Printed conditions are read back.
use Rattle.std.specs.Prelude.{◌≡◌, ℕ, suc, ◌+◌, ◌-◌, ◌≤◌, max, Bool, true, false, ◌==◌, List, [], ◌∷◌, Some}
use Rattle.std.proofs.Common.{refl, ap, ap₂, ◌∙◌, arith}
use Rattle.std.proofs.lemmas.Bool.Decides.{nat_tests}
use Rattle.gx_base.specs.declared.kinds.Kind.{Kind}
use Rattle.gx_base.specs.declared.conditions.Side.{Side}
use Rattle.gx_base.specs.declared.conditions.Side.TheVariants.{First, Second}
use Rattle.gx_base.specs.declared.conditions.Part.{Part}
use Rattle.gx_base.specs.declared.conditions.Part.TheVariants.{ArgFirst, ArgSecond, RepFirst, RepSecond}
use Rattle.gx_base.specs.declared.conditions.Term.{Term}
use Rattle.gx_base.specs.declared.conditions.Term.TheVariants.{Const, Value, Beyond, State}
use Rattle.gx_base.specs.Conditions.{Condition, True, False, Eq, Ne, Lt, Le, And, Or, Not}
use Rattle.gx_base.specs.Kinds.{kind_number}
use Rattle.cond_syntax.specs.Tokens.{Token, Close, AndKey, OrKey, tokens_in}
use Rattle.cond_syntax.specs.WrittenConditions as written
use Rattle.cond_syntax.specs.WrittenConditions.{WrittenCondition, WrittenTerm, has_state_function, Fixed, Named, Far, Comparison, IsEqual, IsOther, IsLess, IsAtMost, Compare, term_of, part_named, condition_in, compared, comparison_of, beyond_of, joined, negated}
use Rattle.cond_syntax.specs.Grammar as grammar
use Rattle.cond_syntax.specs.Grammar.{IsTerm, IsOperator, IsCondition, IsConjunction, IsUnit}
use Rattle.cond_syntax.specs.Fronts.{is_cut_from, most_open}
use Rattle.cond_syntax.specs.TableTexts.{Spells}
use Rattle.cond_syntax.specs.Printing.{letter_of, digit_of, part_text, state_text, is_or, is_and_or_or, condition_text}
use Rattle.cond_syntax.specs.Printable.{IsPrintableTerm, ArePrintable, IsPrintable, condition_depth}
use Rattle.cond_syntax.proofs.printing.PrintedTokens.{up_to_seven, term_onto, grouped_onto, condition_onto, condition-tokens}

-- ---- the trees that are printed

abbrev pub written_term : Term → WrittenTerm
written_term (Const number) = Fixed number
written_term (Value side place) = Named (letter_of place ∷ digit_of side ∷ [])
written_term (Beyond x y z) = Far (part_text x) (part_text y) (part_text z)
written_term (State side) = Named (state_text side)

abbrev pub written_of : Condition → WrittenCondition
written_of True = written.True
written_of False = written.False
written_of (Eq x y) = Compare IsEqual (written_term x) (written_term y)
written_of (Ne x y) = Compare IsOther (written_term x) (written_term y)
written_of (Lt x y) = Compare IsLess (written_term x) (written_term y)
written_of (Le x y) = Compare IsAtMost (written_term x) (written_term y)
written_of (And x y) = written.And (written_of x) (written_of y)
written_of (Or x y) = written.Or (written_of x) (written_of y)
written_of (Not x) = written.Not (written_of x)

depth-written_of : (c : Condition) → written.depth_of (written_of c) ≡ condition_depth c
depth-written_of True = refl
depth-written_of False = refl
depth-written_of (Eq x y) = refl
depth-written_of (Ne x y) = refl
depth-written_of (Lt x y) = refl
depth-written_of (Le x y) = refl
depth-written_of (And x y) = ap₂ (λ m n. suc (max m n)) (depth-written_of x) (depth-written_of y)
depth-written_of (Or x y) = ap₂ (λ m n. suc (max m n)) (depth-written_of x) (depth-written_of y)
depth-written_of (Not x) = ap suc (depth-written_of x)

-- ---- what they mean

value_is : (kind : ℕ) (side : Side) (place : ℕ) → place ≤ 7 → term_of kind (written_term (Value side place)) ≡ Some (Value side place)
value_is kind First = up_to_seven (λ place. term_of kind (written_term (Value First place)) ≡ Some (Value First place)) refl refl refl refl refl refl refl refl
value_is kind Second = up_to_seven (λ place. term_of kind (written_term (Value Second place)) ≡ Some (Value Second place)) refl refl refl refl refl refl refl refl

part_is : (x : Part) → part_named (part_text x) ≡ Some x
part_is ArgFirst = refl
part_is ArgSecond = refl
part_is RepFirst = refl
part_is RepSecond = refl

state_is : (kind : ℕ) (side : Side) → has_state_function kind ≡ true → term_of kind (written_term (State side)) ≡ Some (State side)
state_is kind First h = rw h refl
state_is kind Second h = rw h refl

term_is : (kind : Kind) (t : Term) → IsPrintableTerm kind t → term_of (kind_number kind) (written_term t) ≡ Some t
term_is kind (Const number) h = refl
term_is kind (Value side place) h = value_is (kind_number kind) side place h
term_is kind (Beyond x y z) h = rw (part_is x, part_is y, part_is z) refl
term_is kind (State side) h = state_is (kind_number kind) side h

compared_is : (kind : Kind) (op : Comparison) (x y : Term) → IsPrintableTerm kind x → IsPrintableTerm kind y
    → condition_in (kind_number kind) (Compare op (written_term x) (written_term y)) ≡ Some (comparison_of op x y)
compared_is kind op x y hx hy = ap₂ (compared op) (term_is kind x hx) (term_is kind y hy)

-- the tree stands for the condition
condition_is : (kind : Kind) (c : Condition) → ArePrintable kind c → condition_in (kind_number kind) (written_of c) ≡ Some c
condition_is kind True h = refl
condition_is kind False h = refl
condition_is kind (Eq x y) h = compared_is kind IsEqual x y h.0 h.1
condition_is kind (Ne x y) h = compared_is kind IsOther x y h.0 h.1
condition_is kind (Lt x y) h = compared_is kind IsLess x y h.0 h.1
condition_is kind (Le x y) h = compared_is kind IsAtMost x y h.0 h.1
condition_is kind (And x y) h = ap₂ (joined And) (condition_is kind x h.0) (condition_is kind y h.1)
condition_is kind (Or x y) h = ap₂ (joined Or) (condition_is kind x h.0) (condition_is kind y h.1)
condition_is kind (Not x) h = ap negated (condition_is kind x h)

-- ---- their form

term_form : (t : Term) (qs : List Token) → IsTerm (term_onto t qs) qs (written_term t)
term_form (Const number) qs = grammar.number
term_form (Value side place) qs = grammar.word
term_form (Beyond x y z) qs = grammar.beyond
term_form (State side) qs = grammar.word

-- tokens that are a condition, a conjunction or a unit in front of whatever follows
abbrev pub AsCondition : (List Token → List Token) → WrittenCondition → Type 0
AsCondition tokens tree = (qs : List Token) → IsCondition (tokens qs) qs tree

abbrev pub AsConjunction : (List Token → List Token) → WrittenCondition → Type 0
AsConjunction tokens tree = (qs : List Token) → IsConjunction (tokens qs) qs tree

abbrev pub AsUnit : (List Token → List Token) → WrittenCondition → Type 0
AsUnit tokens tree = (qs : List Token) → IsUnit (tokens qs) qs tree

record HasForm (c : Condition) : Type 0 where
  condition : AsCondition (condition_onto c) (written_of c)
  conjunction : is_or c ≡ false → AsConjunction (condition_onto c) (written_of c)
  unit : is_and_or_or c ≡ false → AsUnit (condition_onto c) (written_of c)

of_unit : (c : Condition) → AsUnit (condition_onto c) (written_of c) → HasForm c
of_unit c h = record { condition = λ qs. grammar.conjunction (grammar.unit (h qs)); conjunction = λ e qs. grammar.unit (h qs); unit = λ e. h }

grouped_unit : (b : Bool) (tokens : List Token → List Token) (tree : WrittenCondition) → AsCondition tokens tree → (b ≡ false → AsUnit tokens tree) → AsUnit (grouped_onto b tokens) tree
grouped_unit true tokens w whole one qs = grammar.group (whole (Close ∷ qs))
grouped_unit false tokens w whole one qs = one refl qs

grouped_conjunction : (b : Bool) (tokens : List Token → List Token) (tree : WrittenCondition) → AsCondition tokens tree → (b ≡ false → AsConjunction tokens tree) → AsConjunction (grouped_onto b tokens) tree
grouped_conjunction true tokens w whole one qs = grammar.unit (grammar.group (whole (Close ∷ qs)))
grouped_conjunction false tokens w whole one qs = one refl qs

compare_form : (x y : Term) (o : Token) (op : Comparison) → IsOperator o op → AsUnit (λ qs. term_onto x (o ∷ term_onto y qs)) (Compare op (written_term x) (written_term y))
compare_form x y o op is qs = grammar.compare (term_form x (o ∷ term_onto y qs)) is (term_form y qs)

and_form : (x y : Condition) → HasForm x → HasForm y → AsConjunction (condition_onto (And x y)) (written_of (And x y))
and_form x y hx hy qs =
    grammar.and
    (grouped_conjunction (is_or x) (condition_onto x) (written_of x) hx.condition hx.conjunction (AndKey ∷ grouped_onto (is_and_or_or y) (condition_onto y) qs))
    (grouped_unit (is_and_or_or y) (condition_onto y) (written_of y) hy.condition hy.unit qs)

or_form : (x y : Condition) → HasForm x → HasForm y → AsCondition (condition_onto (Or x y)) (written_of (Or x y))
or_form x y hx hy qs =
    grammar.or
    (hx.condition (OrKey ∷ grouped_onto (is_or y) (condition_onto y) qs))
    (grouped_conjunction (is_or y) (condition_onto y) (written_of y) hy.condition hy.conjunction qs)

not_form : (x : Condition) → HasForm x → AsUnit (condition_onto (Not x)) (written_of (Not x))
not_form x h qs = grammar.not (grouped_unit (is_and_or_or x) (condition_onto x) (written_of x) h.condition h.unit qs)

condition_form : (c : Condition) → HasForm c
condition_form True = of_unit True (λ qs. grammar.true)
condition_form False = of_unit False (λ qs. grammar.false)
condition_form (Eq x y) = of_unit (Eq x y) (compare_form x y _ IsEqual grammar.equal)
condition_form (Ne x y) = of_unit (Ne x y) (compare_form x y _ IsOther grammar.differ)
condition_form (Lt x y) = of_unit (Lt x y) (compare_form x y _ IsLess grammar.less)
condition_form (Le x y) = of_unit (Le x y) (compare_form x y _ IsAtMost grammar.at_most)
condition_form (And x y) =
    let h = and_form x y (condition_form x) (condition_form y) in
    record { condition = λ qs. grammar.conjunction (h qs); conjunction = λ e. h; unit = λ e. absurd (cc) }
condition_form (Or x y) = record { condition = or_form x y (condition_form x) (condition_form y); conjunction = λ e. absurd (cc); unit = λ e. absurd (cc) }
condition_form (Not x) = of_unit (Not x) (not_form x (condition_form x))

-- ---- their parentheses

not_full : (count : ℕ) → suc count ≤ 64 → (count == most_open) ≡ false
not_full count le = grind (arith, nat_tests)

one_less : (count : ℕ) → count + 1 - 1 ≡ count
one_less count = omega arith

term_cut : (count : ℕ) (t : Term) (qs : List Token) → suc count ≤ 64 → is_cut_from count (term_onto t qs) ≡ is_cut_from count qs
term_cut count (Const number) qs le = refl
term_cut count (Value side place) qs le = refl
term_cut count (Beyond x y z) qs le = rw (not_full count le, one_less count) refl
term_cut count (State side) qs le = refl

-- tokens after which as many parentheses are open as in front, and not too many between them, where there is room for so many
abbrev pub IsShallow : (List Token → List Token) → ℕ → Type 0
IsShallow tokens depth = (count : ℕ) (qs : List Token) → count + depth ≤ 64 → is_cut_from count (tokens qs) ≡ is_cut_from count qs

grouped_cut : (b : Bool) (tokens : List Token → List Token) (depth : ℕ) → IsShallow tokens depth → IsShallow (grouped_onto b tokens) (suc depth)
grouped_cut true tokens depth h count qs le = rw (not_full count (omega arith)) (h (count + 1) (Close ∷ qs) (omega arith) ∙ ap (λ n. is_cut_from n qs) (one_less count))
grouped_cut false tokens depth h count qs le = h count qs (omega arith)

compare_cut : (x y : Term) (o : Token) → ((count : ℕ) (qs : List Token) → is_cut_from count (o ∷ qs) ≡ is_cut_from count qs) → IsShallow (λ qs. term_onto x (o ∷ term_onto y qs)) 1
compare_cut x y o h count qs le = term_cut count x (o ∷ term_onto y qs) (omega arith) ∙ h count (term_onto y qs) ∙ term_cut count y qs (omega arith)

condition_cut : (c : Condition) → IsShallow (condition_onto c) (condition_depth c)
condition_cut True count qs le = refl
condition_cut False count qs le = refl
condition_cut (Eq x y) count qs le = compare_cut x y _ (λ n rs. refl) count qs le
condition_cut (Ne x y) count qs le = compare_cut x y _ (λ n rs. refl) count qs le
condition_cut (Lt x y) count qs le = compare_cut x y _ (λ n rs. refl) count qs le
condition_cut (Le x y) count qs le = compare_cut x y _ (λ n rs. refl) count qs le
condition_cut (And x y) count qs le =
    grouped_cut (is_or x) (condition_onto x) (condition_depth x) (condition_cut x) count (AndKey ∷ grouped_onto (is_and_or_or y) (condition_onto y) qs) (omega arith)
    ∙ grouped_cut (is_and_or_or y) (condition_onto y) (condition_depth y) (condition_cut y) count qs (omega arith)
condition_cut (Or x y) count qs le =
    condition_cut x count (OrKey ∷ grouped_onto (is_or y) (condition_onto y) qs) (omega arith)
    ∙ grouped_cut (is_or y) (condition_onto y) (condition_depth y) (condition_cut y) count qs (omega arith)
condition_cut (Not x) count qs le = grouped_cut (is_and_or_or x) (condition_onto x) (condition_depth x) (condition_cut x) count qs le

-- ---- the law

onto_spells : (kind : Kind) (c : Condition) → IsPrintable kind c → Spells kind (condition_onto c []) c
onto_spells kind c h = record {
  shallow = condition_cut c 0 [] (omega (arith, h.depth));
  tree = written_of c;
  spelled = (condition_form c).condition [];
  means = condition_is kind c h.terms;
  depth = rw (depth-written_of c) h.depth;
}

-- the tokens of a printed condition spell it
pub printed_condition : (kind : Kind) (c : Condition) → IsPrintable kind c → Spells kind (tokens_in (condition_text c)) c
printed_condition kind c h = rw (condition-tokens kind c h.terms) (onto_spells kind c h)
