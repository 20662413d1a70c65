-- Bytes without line ends, and the lines of texts that are put together from such.
use Rattle.std.specs.Prelude.{◌≡◌, ℕ, Bool, true, false, not, ◌&&◌, ◌==◌, List, [], ◌∷◌, ◌++◌}
use Rattle.std.proofs.Common.{refl, ap, arith}
use Rattle.std.proofs.lemmas.Bool.{and_parts, and_right}
use Rattle.std.proofs.lemmas.Bool.Decides.{nat_tests}
use Rattle.std.specs.Char.{is_ascii_digit}
use Rattle.text_lines.specs.Lines.{onto, begins_with, lines_of}
use Rattle.text_lines.specs.Numbers.{all_digits}

-- neither a line feed (10) nor a carriage return (13)
abbrev pub is_clean_byte : ℕ → Bool
is_clean_byte b = not (b == 10) && not (b == 13)

-- no such byte is among these
abbrev pub is_clean : List ℕ → Bool
is_clean [] = true
is_clean (b ∷ bs) = is_clean_byte b && is_clean bs

pub clean-append : (xs ys : List ℕ) → is_clean xs ≡ true → is_clean ys ≡ true → is_clean (xs ++ ys) ≡ true
clean-append [] ys h e = e
clean-append (b ∷ bs) ys h e =
    let parts : (is_clean_byte b ≡ true) × (is_clean bs ≡ true) = and_parts (is_clean_byte b) (is_clean bs) h in
    rw (parts.0, clean-append bs ys parts.1 e) refl

digit-clean : (b : ℕ) → is_ascii_digit b ≡ true → is_clean_byte b ≡ true
digit-clean b h = grind (arith, nat_tests)

pub digits-clean : (ds : List ℕ) → all_digits ds ≡ true → is_clean ds ≡ true
digits-clean [] h = refl
digits-clean (d ∷ ds) h =
    let parts : (is_ascii_digit d ≡ true) × (all_digits ds ≡ true) = and_parts (is_ascii_digit d) (all_digits ds) h in
    rw (digit-clean d parts.0, digits-clean ds parts.1) refl

no_feed : (b : ℕ) → is_clean_byte b ≡ true → (b == 10) ≡ false
no_feed b h = grind (arith, nat_tests)

no_return : (b : ℕ) → is_clean_byte b ≡ true → (b == 13) ≡ false
no_return b h = grind (arith, nat_tests)

-- such bytes in front of a line feed are the first line
pub lines-append : (line rest : List ℕ) → is_clean line ≡ true → lines_of (line ++ 10 ∷ rest) ≡ line ∷ lines_of rest
lines-append [] rest h = refl
lines-append (b ∷ bs) rest h =
    let parts : (is_clean_byte b ≡ true) × (is_clean bs ≡ true) = and_parts (is_clean_byte b) (is_clean bs) h in
    rw (no_feed b parts.0, no_return b parts.0, and_right (begins_with 10 (bs ++ 10 ∷ rest)) false refl) (ap (onto b) (lines-append bs rest parts.1))
