-- The values of options are among those that they may have.
use Rattle.std.proofs.Common.{◌≡◌, ℕ, ◌≤◌, ◌==◌, length, map, Bool, true, false, not, ◌&&◌, nat_le, if◌then◌else◌, List, [], ◌∷◌, Option, Some, None, is_some, codes, bytes_eq, refl, subst, arith}
use Rattle.std.proofs.lemmas.Bool.{false≢true, leb-true}
use Rattle.std.proofs.lemmas.Slice.Eq.{bytes_eq-Decides}
use Rattle.text_lines.specs.Numbers.{number_of}
use Rattle.run_words.specs.RunOptions.{option_value, is_between, may_have, are_options, or_default, number_or}

both : (a b : Bool) → (a && b) ≡ true → (a ≡ true) × (b ≡ true)
both true b e = (refl, e)
both false b e = absurd (false≢true e)

-- the value that a test chooses
first_or_later : (test : Bool) (name known value found : List ℕ) (words : List (List ℕ)) → bytes_eq known name ≡ test
    → may_have known value ≡ true → (option_value words name ≡ Some found → may_have name found ≡ true)
    → (if test then Some value else option_value words name) ≡ Some found → may_have name found ≡ true
first_or_later true name known value found words same has later e =
    let known_is : known ≡ name = (bytes_eq-Decides known name).0 same in
    let found_is : value ≡ found = cc in
    subst (λ (xs : List ℕ). may_have xs found ≡ true) known_is (subst (λ (xs : List ℕ). may_have known xs ≡ true) found_is has)
first_or_later false name known value found words same has later e = later e

pub given : (words : List (List ℕ)) (name found : List ℕ) → are_options words ≡ true → option_value words name ≡ Some found → may_have name found ≡ true
given [] name found o e = absurd (cc)
given (known ∷ []) name found o e = absurd (cc)
given (known ∷ value ∷ words) name found o e =
    let parts = both (may_have known value && not (is_some (option_value words known))) (are_options words) o in
    let has = (both (may_have known value) (not (is_some (option_value words known))) parts.0).0 in
    first_or_later (bytes_eq known name) name known value found words refl has (given words name found parts.1) e

between : (n : Option ℕ) → is_between 1 64 n ≡ true → (1 ≤ or_default 1 n) × (or_default 1 n ≤ 64)
between None e = (omega arith, omega arith)
between (Some n) e = let parts = both (nat_le 1 n) (nat_le n 64) e in (leb-true 1 n parts.0, leb-true n 64 parts.1)

within : (value : Option (List ℕ)) → ((found : List ℕ) → value ≡ Some found → may_have (codes "--virtual") found ≡ true) → (1 ≤ number_or 1 value) × (number_or 1 value ≤ 64)
within None has = (omega arith, omega arith)
within (Some found) has = between (number_of found) (has found refl)

-- there are 1 to 64 workers
pub workers_within : (words : List (List ℕ)) → are_options words ≡ true → (1 ≤ number_or 1 (option_value words (codes "--virtual"))) × (number_or 1 (option_value words (codes "--virtual")) ≤ 64)
workers_within words o = within (option_value words (codes "--virtual")) (λ found e. given words (codes "--virtual") found o e)

-- of fewer than two words, only none at all are options
pub few_options : {A : Type 0} (text : A → List ℕ) (words : List A) → length words ≤ 1 → are_options (map text words) ≡ (length words == 0)
few_options text [] l = refl
few_options text (word ∷ []) l = refl
few_options text (word ∷ next ∷ words) l = absurd (omega arith)
