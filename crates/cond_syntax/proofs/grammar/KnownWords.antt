-- Which words of a condition are known: as many of its tree as of its tokens.
use Rattle.std.specs.Prelude.{◌≡◌, ℕ, Bool, true, false, ◌&&◌, List, [], ◌∷◌, Option, Some, None, is_some, refl}
use Rattle.std.proofs.Common.{sym, ◌∙◌, ap}
use Rattle.gx_base.specs.Conditions as plain
use Rattle.gx_base.specs.Conditions.{Condition}
use Rattle.gx_base.specs.declared.conditions.Part.{Part}
use Rattle.gx_base.specs.declared.conditions.Term.{Term}
use Rattle.cond_syntax.specs.Tokens.{Token}
use Rattle.cond_syntax.specs.WrittenConditions.{WrittenTerm, Comparison, WrittenCondition, part_named, beyond_of, term_of, compared, joined, negated, condition_in}
use Rattle.cond_syntax.specs.Grammar as grammar
use Rattle.cond_syntax.specs.Grammar.{IsTerm, IsOperator, IsCondition, IsConjunction, IsUnit}
use Rattle.cond_syntax.specs.Fronts.{all_known}

-- ---- what is made of parts is there where each part is

beyond_is_some : (x y z : Option Part) (b : Bool) → (is_some x && (is_some y && (is_some z && b))) ≡ (is_some (beyond_of x y z) && b)
beyond_is_some None y z b = refl
beyond_is_some (Some x) None z b = refl
beyond_is_some (Some x) (Some y) None b = refl
beyond_is_some (Some x) (Some y) (Some z) b = refl

compared_is_some : (op : Comparison) (x y : Option Term) (b : Bool) → (is_some x && (is_some y && b)) ≡ (is_some (compared op x y) && b)
compared_is_some op None y b = refl
compared_is_some op (Some x) None b = refl
compared_is_some op (Some x) (Some y) b = refl

joined_is_some : (join : Condition → Condition → Condition) (x y : Option Condition) (b : Bool) → (is_some x && (is_some y && b)) ≡ (is_some (joined join x y) && b)
joined_is_some join None y b = refl
joined_is_some join (Some x) None b = refl
joined_is_some join (Some x) (Some y) b = refl

negated_is_some : (x : Option Condition) (b : Bool) → (is_some x && b) ≡ (is_some (negated x) && b)
negated_is_some None b = refl
negated_is_some (Some x) b = refl

-- ---- along the grammar

operator_known : {o : Token} {op : Comparison} → IsOperator o op → (kind : ℕ) (ts : List Token) → all_known kind false (o ∷ ts) ≡ all_known kind false ts
operator_known grammar.equal kind ts = refl
operator_known grammar.differ kind ts = refl
operator_known grammar.less kind ts = refl
operator_known grammar.at_most kind ts = refl

term_known : {ps qs : List Token} {x : WrittenTerm} → IsTerm ps qs x → (kind : ℕ) → all_known kind false ps ≡ (is_some (term_of kind x) && all_known kind false qs)
term_known grammar.number kind = refl
term_known grammar.word kind = refl
term_known (grammar.beyond {x} {y} {z} {ts}) kind = beyond_is_some (part_named x) (part_named y) (part_named z) (all_known kind false ts)

mutual
  unit_known : {ps qs : List Token} {c : WrittenCondition} → IsUnit ps qs c → (kind : ℕ) → all_known kind false ps ≡ (is_some (condition_in kind c) && all_known kind false qs)
  unit_known (grammar.not {qs} {c} h) kind = unit_known h kind ∙ negated_is_some (condition_in kind c) (all_known kind false qs)
  unit_known (grammar.group h) kind = condition_known h kind
  unit_known grammar.true kind = refl
  unit_known grammar.false kind = refl
  unit_known (grammar.compare {qs} {rs} {op} {x} {y} h o k) kind =
      term_known h kind ∙ ap (λ b. is_some (term_of kind x) && b) (operator_known o kind qs ∙ term_known k kind)
      ∙ (compared_is_some op (term_of kind x) (term_of kind y) (all_known kind false rs))

  conjunction_known : {ps qs : List Token} {c : WrittenCondition} → IsConjunction ps qs c → (kind : ℕ)
      → all_known kind false ps ≡ (is_some (condition_in kind c) && all_known kind false qs)
  conjunction_known (grammar.unit h) kind = unit_known h kind
  conjunction_known (grammar.and {rs} {c} {d} h k) kind =
      conjunction_known h kind ∙ ap (λ b. is_some (condition_in kind c) && b) (unit_known k kind)
      ∙ (joined_is_some plain.And (condition_in kind c) (condition_in kind d) (all_known kind false rs))

  condition_known : {ps qs : List Token} {c : WrittenCondition} → IsCondition ps qs c → (kind : ℕ)
      → all_known kind false ps ≡ (is_some (condition_in kind c) && all_known kind false qs)
  condition_known (grammar.conjunction h) kind = conjunction_known h kind
  condition_known (grammar.or {rs} {c} {d} h k) kind =
      condition_known h kind ∙ ap (λ b. is_some (condition_in kind c) && b) (conjunction_known k kind)
      ∙ (joined_is_some plain.Or (condition_in kind c) (condition_in kind d) (all_known kind false rs))

-- ---- of all tokens

and_true : (a : Bool) → (a && true) ≡ a
and_true true = refl
and_true false = refl

spelled_known : (kind : ℕ) (ts : List Token) (c : WrittenCondition) → IsCondition ts [] c → is_some (condition_in kind c) ≡ all_known kind false ts
spelled_known kind ts c spelled = sym (condition_known spelled kind ∙ and_true (is_some (condition_in kind c)))

what_is_some : {A : Type 0} (o : Option A) → is_some o ≡ true → (x : A) × (o ≡ Some x)
what_is_some None h = absurd (cc)
what_is_some (Some x) h = (x, refl)

what_is_none : {A : Type 0} (o : Option A) → is_some o ≡ false → o ≡ None
what_is_none None h = refl
what_is_none (Some x) h = absurd (cc)

-- a condition's words are known exactly where each word of its tokens is
pub known_words : (kind : ℕ) (ts : List Token) (c : WrittenCondition) → IsCondition ts [] c → all_known kind false ts ≡ true → (d : Condition) × (condition_in kind c ≡ Some d)
known_words kind ts c spelled known = what_is_some (condition_in kind c) (spelled_known kind ts c spelled ∙ known)

pub unknown_word : (kind : ℕ) (ts : List Token) (c : WrittenCondition) → IsCondition ts [] c → all_known kind false ts ≡ false → condition_in kind c ≡ None
unknown_word kind ts c spelled unknown = what_is_none (condition_in kind c) (spelled_known kind ts c spelled ∙ unknown)
