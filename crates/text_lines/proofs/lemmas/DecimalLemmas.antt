-- A number is read from the digits that are printed of it.
use Rattle.std.specs.Prelude.{◌≡◌, ℕ, ◌+◌, ◌-◌, ◌*◌, ◌/◌, ◌%◌, ◌^◌, ◌<◌, ◌≤◌, true, nat_lt, nat_le, List, [], ◌∷◌, ◌++◌, length, Some}
use Rattle.std.proofs.Common.{refl, ◌∙◌, arith}
use Rattle.std.proofs.lemmas.Bool.{and_parts, lt-ltb, le-leb}
use Rattle.std.proofs.lemmas.Bool.Decides.{nat_tests}
use Rattle.std.proofs.lemmas.Fmt.{decimal_by_steps, length-decimal-le}
use Rattle.std.specs.Char.{is_ascii_digit}
use Rattle.std.specs.Fmt.{decimal}
use Rattle.text_lines.specs.Numbers.{all_digits, value_from, digits_value_of, number_of}

-- digits, at least one, that spell the number
pub record AreDigitsOf (n : ℕ) (ds : List ℕ) : Type 0 where
  pub digits : all_digits ds ≡ true
  pub some : 0 < length ds
  pub value : value_from 0 ds ≡ n

value-push : (n : ℕ) (ds : List ℕ) (d : ℕ) → value_from n (ds ++ d ∷ []) ≡ 10 * value_from n ds + (d - 48)
value-push n [] d = refl
value-push n (b ∷ bs) d = value-push (10 * n + (b - 48)) bs d

digits-push : (ds : List ℕ) (d : ℕ) → all_digits ds ≡ true → is_ascii_digit d ≡ true → all_digits (ds ++ d ∷ []) ≡ true
digits-push [] d h e = rw e refl
digits-push (b ∷ bs) d h e =
    let parts : (is_ascii_digit b ≡ true) × (all_digits bs ≡ true) = and_parts (is_ascii_digit b) (all_digits bs) h in
    rw (parts.0, digits-push bs d parts.1 e) refl

one_digit : (d : ℕ) → d < 10 → is_ascii_digit (48 + d) ≡ true
one_digit d lt = grind (arith, nat_tests)

one-AreDigitsOf : (n : ℕ) → n < 10 → AreDigitsOf n ((48 + n) ∷ [])
one-AreDigitsOf n lt = record { digits = rw (one_digit n lt) refl; some = omega arith; value = omega arith }

some-push : (ds : List ℕ) (d : ℕ) → 0 < length (ds ++ d ∷ [])
some-push [] d = omega arith
some-push (b ∷ bs) d = omega arith

more-AreDigitsOf : (n : ℕ) (ds : List ℕ) → 10 ≤ n → AreDigitsOf (n / 10) ds → AreDigitsOf n (ds ++ ((48 + n % 10) ∷ []))
more-AreDigitsOf n ds le h = record {
  digits = digits-push ds (48 + n % 10) h.digits (one_digit (n % 10) (omega arith));
  some = some-push ds (48 + n % 10);
  value = value-push 0 ds (48 + n % 10) ∙ rw h.value (omega arith);
}

pub decimal-AreDigitsOf : (n : ℕ) → n < 2 ^ 64 → AreDigitsOf n (decimal n)
decimal-AreDigitsOf n lt = decimal_by_steps AreDigitsOf one-AreDigitsOf more-AreDigitsOf n lt

-- 18 digits at most are read
pub number_of-AreDigitsOf : (n : ℕ) (ds : List ℕ) → length ds ≤ 18 → AreDigitsOf n ds → number_of ds ≡ Some n
unfolding number_of digits_value_of
number_of-AreDigitsOf n ds le h =
    let s : nat_lt 0 (length ds) ≡ true = lt-ltb _ _ h.some in
    let t : nat_le (length ds) 18 ≡ true = le-leb _ _ le in
    rw (s, t, h.digits, h.value) refl

pub length-decimal : (n : ℕ) → n < 10 ^ 18 → length (decimal n) ≤ 18
length-decimal n lt = length-decimal-le 18 n (omega arith) lt (omega arith)
