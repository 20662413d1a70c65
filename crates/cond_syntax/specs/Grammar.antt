-- The grammar of conditions. Each relation but `IsOperator` says that what it speaks of stands at the front of the first list of
-- tokens, and that the second list is what follows it.
use Rattle.std.specs.Prelude.{List, ◌∷◌}
use Rattle.cond_syntax.specs.Tokens.{Token, Word, Number, OrKey, AndKey, NotKey, TrueKey, FalseKey, BeyondKey, Open, Close, Comma, Equal, Differ, Less, AtMost}
use Rattle.cond_syntax.specs.WrittenConditions.{WrittenTerm, Fixed, Named, Far, Comparison, IsEqual, IsOther, IsLess, IsAtMost, WrittenCondition, True, False, Compare, And, Or, Not}

-- term = NUMBER | WORD | "beyond" "(" WORD "," WORD "," WORD ")"
pub data IsTerm : List Token → List Token → WrittenTerm → Type 0 where
  number : {z : _} {ts : List Token} → IsTerm (Number z ∷ ts) ts (Fixed z)
  word : {w : _} {ts : List Token} → IsTerm (Word w ∷ ts) ts (Named w)
  beyond : {x y z : _} {ts : List Token} → IsTerm (BeyondKey ∷ Open ∷ Word x ∷ Comma ∷ Word y ∷ Comma ∷ Word z ∷ Close ∷ ts) ts (Far x y z)

-- op = "=" | "!=" | "<" | "<="
pub data IsOperator : Token → Comparison → Type 0 where
  equal : IsOperator Equal IsEqual
  differ : IsOperator Differ IsOther
  less : IsOperator Less IsLess
  at_most : IsOperator AtMost IsAtMost

mutual
  -- cond = conj { "or" conj }, joined to the left
  pub data IsCondition : List Token → List Token → WrittenCondition → Type 0 where
    conjunction : {ps qs : List Token} {c : WrittenCondition} → IsConjunction ps qs c → IsCondition ps qs c
    or : {ps qs rs : List Token} {c d : WrittenCondition} → IsCondition ps (OrKey ∷ qs) c → IsConjunction qs rs d → IsCondition ps rs (Or c d)

  -- conj = unit { "and" unit }, joined to the left
  pub data IsConjunction : List Token → List Token → WrittenCondition → Type 0 where
    unit : {ps qs : List Token} {c : WrittenCondition} → IsUnit ps qs c → IsConjunction ps qs c
    and : {ps qs rs : List Token} {c d : WrittenCondition} → IsConjunction ps (AndKey ∷ qs) c → IsUnit qs rs d → IsConjunction ps rs (And c d)

  -- unit = "not" unit | "(" cond ")" | "true" | "false" | term op term
  pub data IsUnit : List Token → List Token → WrittenCondition → Type 0 where
    not : {ps qs : List Token} {c : WrittenCondition} → IsUnit ps qs c → IsUnit (NotKey ∷ ps) qs (Not c)
    group : {ps qs : List Token} {c : WrittenCondition} → IsCondition ps (Close ∷ qs) c → IsUnit (Open ∷ ps) qs c
    true : {ps : List Token} → IsUnit (TrueKey ∷ ps) ps True
    false : {ps : List Token} → IsUnit (FalseKey ∷ ps) ps False
    compare : {ps qs rs : List Token} {o : Token} {op : Comparison} {x y : WrittenTerm} → IsTerm ps (o ∷ qs) x → IsOperator o op → IsTerm qs rs y → IsUnit ps rs (Compare op x y)
