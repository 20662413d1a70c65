-- The numbers of a line and of the trees that its tokens spell have at most 18 digits.
use Rattle.std.specs.Prelude.{◌≡◌, ℕ, zero, suc, ℤ, pos, neg_ℤ, nat_abs, ◌^◌, ◌<◌, Bool, true, false, cond, List, [], ◌∷◌, map, Option, Some, None}
use Rattle.std.proofs.Common.{refl, ap, subst}
use Rattle.text_lines.proofs.CallerLemmas.{number_of-below}
use Rattle.text_lines.specs.Numbers.{number_of}
use Rattle.cond_syntax.specs.Pieces.{pieces_of}
use Rattle.cond_syntax.specs.Tokens.{Token, Word, Number, TypeKey, OrKey, AndKey, NotKey, TrueKey, FalseKey, BeyondKey, Open, Close, Comma, Colon, Equal, Differ, Less, AtMost, Odd, word_token, sign_token, positive_token, negative_token, token_of, tokens_in}
use Rattle.cond_syntax.specs.WrittenConditions.{WrittenTerm, Fixed, Named, Far, WrittenCondition, True, False, Compare, And, Or, Not}
use Rattle.cond_syntax.specs.Grammar as grammar
use Rattle.cond_syntax.specs.Grammar.{IsTerm, IsCondition, IsConjunction, IsUnit}

-- ---- tokens

-- the token is no number, or one of at most 18 digits
pub record IsSmall (token : Token) : Type 0 where
  pub number : (z : ℤ) → token ≡ Number z → nat_abs z < 10 ^ 18

abbrev is_number : Token → Bool
is_number (Number z) = true
is_number _ = false

other-IsSmall : (token : Token) → is_number token ≡ false → IsSmall token
other-IsSmall token none = record { number = λ z e. let one : is_number token ≡ true = ap is_number e in absurd (cc) }

either-IsSmall : (b : Bool) (x y : Token) → IsSmall x → IsSmall y → IsSmall (cond b x y)
either-IsSmall true x y f g = f
either-IsSmall false x y f g = g

number-IsSmall : (number : ℤ) → nat_abs number < 10 ^ 18 → IsSmall (Number number)
number-IsSmall number lt = record { number = λ z e. let same : number ≡ z = cc in subst (λ (x : ℤ). nat_abs x < 10 ^ 18) same lt }

positive-IsSmall : (o : Option ℕ) → ((n : ℕ) → o ≡ Some n → n < 10 ^ 18) → IsSmall (positive_token o)
positive-IsSmall None below = other-IsSmall Odd refl
positive-IsSmall (Some n) below = number-IsSmall (pos n) (below n refl)

size_of_negative : (n : ℕ) → nat_abs (neg_ℤ (pos n)) ≡ n
size_of_negative zero = refl
size_of_negative (suc n) = refl

negative-IsSmall : (o : Option ℕ) → ((n : ℕ) → o ≡ Some n → n < 10 ^ 18) → IsSmall (negative_token o)
negative-IsSmall None below = other-IsSmall Odd refl
negative-IsSmall (Some n) below = number-IsSmall (neg_ℤ (pos n)) (rw (size_of_negative n) (below n refl))

word-IsSmall : (word : List ℕ) → IsSmall (word_token word)
word-IsSmall word =
    either-IsSmall _ _ _ (other-IsSmall TypeKey refl)
    (either-IsSmall _ _ _ (other-IsSmall OrKey refl)
    (either-IsSmall _ _ _ (other-IsSmall AndKey refl)
    (either-IsSmall _ _ _ (other-IsSmall NotKey refl)
    (either-IsSmall _ _ _ (other-IsSmall TrueKey refl)
    (either-IsSmall _ _ _ (other-IsSmall FalseKey refl)
    (either-IsSmall _ _ _ (other-IsSmall BeyondKey refl) (other-IsSmall (Word word) refl)))))))

sign-IsSmall : (sign : List ℕ) → IsSmall (sign_token sign)
sign-IsSmall sign =
    either-IsSmall _ _ _ (other-IsSmall Open refl)
    (either-IsSmall _ _ _ (other-IsSmall Close refl)
    (either-IsSmall _ _ _ (other-IsSmall Comma refl)
    (either-IsSmall _ _ _ (other-IsSmall Colon refl)
    (either-IsSmall _ _ _ (other-IsSmall Equal refl)
    (either-IsSmall _ _ _ (other-IsSmall Differ refl)
    (either-IsSmall _ _ _ (other-IsSmall Less refl)
    (either-IsSmall _ _ _ (other-IsSmall AtMost refl) (other-IsSmall Odd refl))))))))

token-IsSmall : (piece : List ℕ) → IsSmall (token_of piece)
token-IsSmall [] = other-IsSmall Odd refl
token-IsSmall (b ∷ bs) =
    either-IsSmall _ _ _ (word-IsSmall (b ∷ bs))
    (either-IsSmall _ _ _ (positive-IsSmall (number_of (b ∷ bs)) (number_of-below (b ∷ bs)))
    (either-IsSmall _ _ _ (negative-IsSmall (number_of bs) (number_of-below bs)) (sign-IsSmall (b ∷ bs))))

abbrev pub AreSmall : List Token → Type 0
AreSmall [] = Unit {0}
AreSmall (token ∷ ts) = IsSmall token × AreSmall ts

pieces-AreSmall : (pieces : List (List ℕ)) → AreSmall (map token_of pieces)
pieces-AreSmall [] = tt
pieces-AreSmall (piece ∷ pieces) = (token-IsSmall piece, pieces-AreSmall pieces)

-- each number of a line's tokens has at most 18 digits
pub tokens-AreSmall : (line : List ℕ) → AreSmall (tokens_in line)
tokens-AreSmall line = pieces-AreSmall (pieces_of line)

-- ---- trees

abbrev pub HasSmallNumber : WrittenTerm → Type 0
HasSmallNumber (Fixed number) = nat_abs number < 10 ^ 18
HasSmallNumber (Named word) = Unit {0}
HasSmallNumber (Far x y z) = Unit {0}

abbrev pub HasSmallNumbers : WrittenCondition → Type 0
HasSmallNumbers True = Unit {0}
HasSmallNumbers False = Unit {0}
HasSmallNumbers (Compare op x y) = HasSmallNumber x × HasSmallNumber y
HasSmallNumbers (And x y) = HasSmallNumbers x × HasSmallNumbers y
HasSmallNumbers (Or x y) = HasSmallNumbers x × HasSmallNumbers y
HasSmallNumbers (Not x) = HasSmallNumbers x

term-small : {ps qs : List Token} {x : WrittenTerm} → IsTerm ps qs x → AreSmall ps → HasSmallNumber x × AreSmall qs
term-small (grammar.number {z}) small = (small.0.number z refl, small.1)
term-small grammar.word small = (tt, small.1)
term-small grammar.beyond small = (tt, small.1.1.1.1.1.1.1.1)

mutual
  unit-small : {ps qs : List Token} {c : WrittenCondition} → IsUnit ps qs c → AreSmall ps → HasSmallNumbers c × AreSmall qs
  unit-small (grammar.not h) small = unit-small h small.1
  unit-small (grammar.group h) small = let inside = condition-small h small.1 in (inside.0, inside.1.1)
  unit-small grammar.true small = (tt, small.1)
  unit-small grammar.false small = (tt, small.1)
  unit-small (grammar.compare h o k) small =
      let left = term-small h small in
      let right = term-small k left.1.1 in
      ((left.0, right.0), right.1)

  conjunction-small : {ps qs : List Token} {c : WrittenCondition} → IsConjunction ps qs c → AreSmall ps → HasSmallNumbers c × AreSmall qs
  conjunction-small (grammar.unit h) small = unit-small h small
  conjunction-small (grammar.and h k) small =
      let left = conjunction-small h small in
      let right = unit-small k left.1.1 in
      ((left.0, right.0), right.1)

  pub condition-small : {ps qs : List Token} {c : WrittenCondition} → IsCondition ps qs c → AreSmall ps → HasSmallNumbers c × AreSmall qs
  condition-small (grammar.conjunction h) small = conjunction-small h small
  condition-small (grammar.or h k) small =
      let left = condition-small h small in
      let right = conjunction-small k left.1.1 in
      ((left.0, right.0), right.1)
