-- Numbers in decimal digits, as lists of bytes.
use Rattle.std.specs.Prelude.{ℕ, ◌+◌, ◌-◌, ◌*◌, Bool, true, ◌&&◌, nat_le, nat_lt, if◌then◌else◌, List, [], ◌∷◌, length, Option, Some, None}
use Rattle.std.specs.Char.{is_ascii_digit}

-- every byte is a digit from 0 (48) to 9
abbrev pub all_digits : List ℕ → Bool
all_digits [] = true
all_digits (b ∷ bs) = is_ascii_digit b && all_digits bs

-- the number that digits spell, after those that spell n
abbrev pub value_from : ℕ → List ℕ → ℕ
value_from n [] = n
value_from n (b ∷ bs) = value_from (10 * n + (b - 48)) bs

-- what a field of digits alone spells
unfoldable pub digits_value_of : List ℕ → Option ℕ
digits_value_of field = if all_digits field then Some (value_from 0 field) else None

-- the number of a field of 1 to 18 digits, whatever zeros lead it
unfoldable pub number_of : List ℕ → Option ℕ
number_of field = if nat_lt 0 (length field) && nat_le (length field) 18 then digits_value_of field else None
