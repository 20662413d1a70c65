-- How the table of a kind is filled, row by row, over all pairs of its methods.
use Rattle.std.proofs.Common.{◌≡◌, ℕ, ◌+◌, ◌<◌, ◌≤◌, Bool, true, false, ◌||◌, ◌&&◌, ◌==◌, nat_lt, nat_le, if◌then◌else◌, sym, ◌∙◌, ap, refl, arith, length}
use Rattle.std.proofs.lemmas.Bool.Decides.{nat_tests}
use Rattle.std.specs.FinMap as map
use Rattle.gx_base.specs.Conditions.{Condition, False}
use Rattle.gx_base.proofs.CallerLemmas.{row_of-empty, row_of-insert}
use Rattle.gx_base.specs.Methods.{first_method, words_of, is_method}
use Rattle.gx_base.specs.Tables.{Rows, KeepsToKind}
use Rattle.gx_base.specs.TableRows.{RowMap, row_of}

-- among the rows of methods from low to below high, that of m and n was put before that of first and second
abbrev pub is_put : (low high first second m n : ℕ) → Bool
is_put low high first second m n = (nat_le low m && nat_le low n && nat_lt n high) && (nat_lt m first || ((m == first) && nat_lt n second))

none_put : (low high m n : ℕ) → is_put low high low low m n ≡ false
none_put low high m n = grind (arith, nat_tests)

one_more_put : (low high first second m n : ℕ) → low ≤ first → low ≤ second → second < high → is_put low high first (second + 1) m n ≡ (((first == m) && (second == n)) || is_put low high first second m n)
one_more_put low high first second m n a b c = grind (arith, nat_tests)

row_put : (low high first m n : ℕ) → is_put low high first high m n ≡ is_put low high (first + 1) low m n
row_put low high first m n = grind (arith, nat_tests)

all_put : (low high m n : ℕ) → is_put low high high low m n ≡ ((nat_le low m && nat_lt m high) && (nat_le low n && nat_lt n high))
all_put low high m n = grind (arith, nat_tests)

here_or : (b c : Bool) (x y z : Condition) → (b ≡ true → x ≡ y) → (if b then x else (if c then y else z)) ≡ (if b || c then y else z)
here_or true c x y z h = h refl
here_or false c x y z h = refl

both_same : (a b c d : ℕ) → ((a == b) && (c == d)) ≡ true → (a ≡ b) × (c ≡ d)
both_same a b c d e = (grind (arith, nat_tests), grind (arith, nat_tests))

module _ (kind : ℕ) where
  -- what follows the last method of the kind
  abbrev pub methods_end : ℕ
  methods_end = first_method kind + length (words_of kind)

  -- the rows that were put, where the others are false
  abbrev pub filled_to : Rows → ℕ → ℕ → Rows
  filled_to rows first second m n = if is_put (first_method kind) methods_end first second m n then rows m n else False

  -- before the first row
  pub filled-none : (rows : Rows) (m n : ℕ) → row_of map.empty m n ≡ filled_to rows (first_method kind) (first_method kind) m n
  filled-none rows m n = row_of-empty m n ∙ sym (ap (λ b. if b then rows m n else False) (none_put (first_method kind) methods_end m n))

  -- after one more
  pub filled-more : (rows : Rows) (t : RowMap) (first second : ℕ) (c : Condition) → first_method kind ≤ first → first_method kind ≤ second → second < methods_end → c ≡ rows first second
      → ((m n : ℕ) → row_of t m n ≡ filled_to rows first second m n) → (m n : ℕ) → row_of (map.insert t (first, second) c) m n ≡ filled_to rows first (second + 1) m n
  filled-more rows t first second c a b d e h m n =
      row_of-insert t first second c m n
      ∙ ap (λ x. if (first == m) && (second == n) then c else x) (h m n)
      ∙ here_or ((first == m) && (second == n)) (is_put (first_method kind) methods_end first second m n) c (rows m n) False
      (λ t. let s : (first ≡ m) × (second ≡ n) = both_same first m second n t in e ∙ ap (λ x. rows x second) s.0 ∙ ap (rows m) s.1)
      ∙ sym (ap (λ x. if x then rows m n else False) (one_more_put (first_method kind) methods_end first second m n a b d))

  -- after all of one method
  pub filled-row : (rows : Rows) (first m n : ℕ) → filled_to rows first methods_end m n ≡ filled_to rows (first + 1) (first_method kind) m n
  filled-row rows first m n = ap (λ x. if x then rows m n else False) (row_put (first_method kind) methods_end first m n)

  -- after all: the rows of other methods are false
  pub filled-all : (rows : Rows) → KeepsToKind kind rows → (m n : ℕ) → filled_to rows methods_end (first_method kind) m n ≡ rows m n
  filled-all rows keeps m n = ap (λ x. if x then rows m n else False) (all_put (first_method kind) methods_end m n) ∙ by (is_method kind m && is_method kind n) refl
    where
      by : (b : Bool) → (is_method kind m && is_method kind n) ≡ b → (if b then rows m n else False) ≡ rows m n
      by true e = refl
      by false e = sym (keeps m n e)
