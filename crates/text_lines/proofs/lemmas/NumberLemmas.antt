-- The number of a field.
use Rattle.std.proofs.Common.{◌≡◌, ℕ, ◌+◌, ◌-◌, ◌*◌, ◌^◌, ◌<◌, ◌≤◌, Bool, true, false, cond, ◌&&◌, eqb, leb, ltb, List, [], ◌∷◌, length, get_or, drop, Option, Some, None, refl, sym, ◌∙◌, add-one, arith}
use Rattle.std.proofs.lemmas.Bool.{and_parts, eqb-false, leb-true, lt-ltb, le-leb}
use Rattle.std.proofs.lemmas.Bool.Decides.{nat_tests}
use Rattle.std.proofs.lemmas.List.{at_drop_more}
use Rattle.std.proofs.lemmas.Option.{cond_some}
use Rattle.std.proofs.Math.Nat.{pow-le-pow_right, pow-suc}
use Rattle.std.specs.Char.{is_ascii_digit}
use Rattle.text_lines.specs.Numbers.{all_digits, value_from, digits_value_of, number_of}

pub no_digits : (field : List ℕ) → length field ≡ 0 → None ≡ number_of field
unfolding number_of
no_digits field e = let t : ltb 0 (length field) ≡ false = grind (arith, nat_tests) in rw t refl

pub too_many : (field : List ℕ) → 18 < length field → None ≡ number_of field
unfolding number_of
too_many field lt =
    let s : ltb 0 (length field) ≡ true = lt-ltb _ _ (omega arith) in
    let t : leb (length field) 18 ≡ false = grind (arith, nat_tests) in
    rw (s, t) refl

pub few_digits : (field : List ℕ) → 0 < length field → length field ≤ 18 → digits_value_of field ≡ number_of field
unfolding number_of
few_digits field some le =
    let s : ltb 0 (length field) ≡ true = lt-ltb _ _ some in
    let t : leb (length field) 18 ≡ true = le-leb _ _ le in
    rw (s, t) refl

pub other_sign : (field : List ℕ) → all_digits field ≡ false → None ≡ digits_value_of field
unfolding digits_value_of
other_sign field h = rw h refl

pub only_digits : (field : List ℕ) → all_digits field ≡ true → Some (value_from 0 field) ≡ digits_value_of field
unfolding digits_value_of
only_digits field h = rw h refl

-- one digit more
pub digits_more : (field : List ℕ) (i : ℕ) → i < length field → is_ascii_digit (get_or field i 0) ≡ true → all_digits (drop i field) ≡ all_digits (drop (i + 1) field)
digits_more field i lt h =
    let e : all_digits (drop i field) ≡ (is_ascii_digit (get_or field i 0) && all_digits (drop (i + 1) field)) = at_drop_more all_digits field i 0 lt in
    e ∙ rw h refl

pub digits_end : (field : List ℕ) (i : ℕ) → i < length field → is_ascii_digit (get_or field i 0) ≡ false → all_digits (drop i field) ≡ false
digits_end field i lt h =
    let e : all_digits (drop i field) ≡ (is_ascii_digit (get_or field i 0) && all_digits (drop (i + 1) field)) = at_drop_more all_digits field i 0 lt in
    e ∙ rw h refl

pub value_more : (n : ℕ) (field : List ℕ) (i : ℕ) → i < length field → value_from n (drop i field) ≡ value_from (10 * n + (get_or field i 0 - 48)) (drop (i + 1) field)
value_more n field i lt = at_drop_more (value_from n) field i 0 lt

-- the value so far, and one digit more
pub room : (n i : ℕ) → i < 18 → n < 10 ^ i → 10 * n + 10 ≤ 10 ^ 18
room n i lt small =
    let p : 10 ^ i ≤ 10 ^ 17 = pow-le-pow_right {n = 10} (omega arith) {i = i} {j = 17} (omega arith) in
    omega arith

pub small_value : (n i : ℕ) → i ≤ 18 → n < 10 ^ i → n < 10 ^ 18
small_value n i le small =
    let p : 10 ^ i ≤ 10 ^ 18 = pow-le-pow_right {n = 10} (omega arith) {i = i} {j = 18} le in
    omega arith

pub small_more : (n d i : ℕ) → d < 10 → n < 10 ^ i → 10 * n + d < 10 ^ (i + 1)
small_more n d i lt small = let p : 10 ^ (i + 1) ≡ 10 ^ i * 10 = rw add-one (pow-suc 10 i) in omega arith

pub some_from_test : (field : List ℕ) (r : Bool) → r ≡ eqb (length field) 0 → r ≡ false → 0 < length field
some_from_test field r e f = let ne = eqb-false (length field) 0 (sym e ∙ f) in omega arith

pub digit_small : (b : ℕ) → is_ascii_digit b ≡ true → b - 48 < 10
digit_small b h = grind (arith, nat_tests)

-- ---- how large a number of so many digits is

-- digits after a number of i digits spell one of at most j, where j is the number of all of them
value_from-below : (ds : List ℕ) (n i j : ℕ) → j ≡ i + length ds → all_digits ds ≡ true → n < 10 ^ i → value_from n ds < 10 ^ j
value_from-below [] n i j count h lt = let same : j ≡ i = omega arith in rw same lt
value_from-below (d ∷ ds) n i j count h lt =
    let parts : (is_ascii_digit d ≡ true) × (all_digits ds ≡ true) = and_parts (is_ascii_digit d) (all_digits ds) h in
    let same : j ≡ i + 1 + length ds = omega arith in
    value_from-below ds (10 * n + (d - 48)) (i + 1) j same parts.1 (small_more n (d - 48) i (digit_small d parts.0) lt)

pub number_of-below : (field : List ℕ) (n : ℕ) → number_of field ≡ Some n → n < 10 ^ 18
unfolding number_of digits_value_of
number_of-below field n h =
    let some = ltb 0 (length field) in
    let few = leb (length field) 18 in
    let parts = cond_some_by (some && few) (digits_value_of field) n h in
    let inner : (some ≡ true) × (few ≡ true) = and_parts some few parts.0 in
    let count : length field ≤ 18 = leb-true (length field) 18 inner.1 in
    let found : (all_digits field ≡ true) × (value_from 0 field ≡ n) = cond_some (all_digits field) (value_from 0 field) n parts.1 in
    let value : value_from 0 field < 10 ^ length field = value_from-below field 0 0 (length field) (omega arith) found.0 (omega arith) in
    small_value n (length field) count (rw found.1 at value)
  where
    cond_some_by : (b : Bool) (o : Option ℕ) (m : ℕ) → cond b o None ≡ Some m → (b ≡ true) × (o ≡ Some m)
    cond_some_by true o m e = (refl, e)
    cond_some_by false o m e = absurd (cc)
