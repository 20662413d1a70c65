-- The tokens of printed numbers.
use Rattle.std.specs.Prelude.{◌≡◌, ℕ, ℤ, suc, pos, negsuc, nat_abs, ◌^◌, ◌<◌, ◌≤◌, true, List, [], ◌∷◌, length, map, Some}
use Rattle.std.proofs.Common.{refl, ap, ◌∙◌, arith}
use Rattle.std.proofs.lemmas.Bool.{and_parts}
use Rattle.std.specs.Char.{is_ascii_digit}
use Rattle.std.specs.Fmt.{decimal, signed_decimal}
use Rattle.text_lines.proofs.CallerLemmas.{AreDigitsOf, decimal-AreDigitsOf, number_of-AreDigitsOf, length-decimal}
use Rattle.text_lines.specs.Numbers.{all_digits, number_of}
use Rattle.cond_syntax.proofs.tokens.PieceLemmas.{digit-not_alphabetic, digits_go_on, digits_piece}
use Rattle.cond_syntax.specs.Tokens.{Token, Number, token_of, tokens_in}

number_token : (n d : ℕ) (ds : List ℕ) → is_ascii_digit d ≡ true → number_of (d ∷ ds) ≡ Some n → token_of (d ∷ ds) ≡ Number (pos n)
number_token n d ds digit is = rw (digit-not_alphabetic d digit, digit, is) refl

-- a number's digits are one piece, and its token
number_piece : (n : ℕ) (ds : List ℕ) → length ds ≤ 18 → AreDigitsOf n ds → tokens_in ds ≡ Number (pos n) ∷ []
number_piece n [] le h = absurd (omega (arith, h.some))
number_piece n (d ∷ ds) le h =
    let parts : (is_ascii_digit d ≡ true) × (all_digits ds ≡ true) = and_parts (is_ascii_digit d) (all_digits ds) h.digits in
    ap (map token_of) (digits_piece d ds parts.0 parts.1) ∙ ap (λ (t : Token). t ∷ []) (number_token n d ds parts.0 (number_of-AreDigitsOf n (d ∷ ds) le h))

number_after_minus : (n : ℕ) (ds : List ℕ) → length ds ≤ 18 → AreDigitsOf (suc n) ds → tokens_in (45 ∷ ds) ≡ Number (negsuc n) ∷ []
number_after_minus n ds le h = ap (map token_of) (digits_go_on 45 [] ds refl refl h.digits) ∙ rw (number_of-AreDigitsOf (suc n) ds le h) refl

-- a printed number of at most 18 digits is one token
pub number-tokens : (z : ℤ) → nat_abs z < 10 ^ 18 → tokens_in (signed_decimal z) ≡ Number z ∷ []
number-tokens (pos n) lt = number_piece n (decimal n) (length-decimal n lt) (decimal-AreDigitsOf n (omega arith))
number-tokens (negsuc n) lt = number_after_minus n (decimal (suc n)) (length-decimal (suc n) lt) (decimal-AreDigitsOf (suc n) (omega arith))
