-- A number that is put in its place among rising ones.
use Rattle.std.specs.Prelude.{◌≡◌, ◌≢◌, ℕ, suc, ◌+◌, ◌<◌, ◌==◌, Bool, true, false, cond, nat_le, List, [], ◌∷◌, ◌++◌, length, Some, None, refl}
use Rattle.std.specs.List.{position_from, insert}
use Rattle.std.proofs.Common.{sym, ap, ◌∙◌, subst, arith, get_or, zero-add}
use Rattle.std.proofs.lemmas.Bool.{cond-true, cond-false, eq-eqb, ne_eqb}
use Rattle.lock_compiler.specs.Compiled.{with_its_number}

-- a place where a number belongs: it stands there, or it is put there
pub record Belongs (n : ℕ) (xs : List ℕ) (place : ℕ) : Type 0 where
  pub inside : place < length xs
  pub there : get_or xs place 0 ≡ n → with_its_number n xs ≡ xs
  pub put : get_or xs place 0 ≢ n → with_its_number n xs ≡ insert xs place n

abbrev pub BelongsFrom : ℕ → ℕ → List ℕ → ℕ → Type 0
BelongsFrom n k xs i = (place : ℕ) × (i ≡ k + place) × Belongs n xs place

here : (n m : ℕ) (ms : List ℕ) → nat_le n m ≡ true → Belongs n (m ∷ ms) 0
here n m ms low = record {
  inside = omega arith;
  there = λ e. cond-true (nat_le n m) _ _ low ∙ cond-true (n == m) _ _ (eq-eqb n m (sym e));
  put = λ ne. cond-true (nat_le n m) _ _ low ∙ cond-false (n == m) _ _ (ne_eqb n m (λ e. ne (sym e)));
}

later : (n m : ℕ) (ms : List ℕ) (place : ℕ) → nat_le n m ≡ false → Belongs n ms place → Belongs n (m ∷ ms) (suc place)
later n m ms place high b = record {
  inside = let h : place < length ms = b.inside in omega arith;
  there = λ e. cond-false (nat_le n m) _ _ high ∙ ap (λ xs. m ∷ xs) (b.there e);
  put = λ ne. cond-false (nat_le n m) _ _ high ∙ ap (λ xs. m ∷ xs) (b.put ne);
}

by_test : (n m : ℕ) (ms : List ℕ) (k i : ℕ) (t : Bool) → nat_le n m ≡ t → (position_from (nat_le n) (k + 1) ms ≡ Some i → BelongsFrom n (k + 1) ms i)
    → cond t (Some k) (position_from (nat_le n) (k + 1) ms) ≡ Some i → BelongsFrom n k (m ∷ ms) i
by_test n m ms k i true low rest e = (0, let same : k ≡ i = cc in omega arith, here n m ms low)
by_test n m ms k i false high rest e =
    let found : BelongsFrom n (k + 1) ms i = rest e in
    (suc found.0, let same : i ≡ (k + 1) + found.0 = found.1 in omega arith, later n m ms found.0 high found.2)

belongs_from : (n : ℕ) (xs : List ℕ) (k i : ℕ) → position_from (nat_le n) k xs ≡ Some i → BelongsFrom n k xs i
belongs_from n [] k i e = absurd (cc)
belongs_from n (m ∷ ms) k i e = by_test n m ms k i (nat_le n m) refl (belongs_from n ms (k + 1) i) e

pub belongs : (n : ℕ) (xs : List ℕ) (place : ℕ) → position_from (nat_le n) 0 xs ≡ Some place → Belongs n xs place
belongs n xs place e =
    let found : BelongsFrom n 0 xs place = belongs_from n xs 0 place e in
    subst (λ i. Belongs n xs i) (sym (found.1 ∙ zero-add found.0)) found.2

last_by : (n m : ℕ) (ms : List ℕ) (k : ℕ) (t : Bool) → nat_le n m ≡ t → (position_from (nat_le n) (k + 1) ms ≡ None → with_its_number n ms ≡ ms ++ n ∷ [])
    → cond t (Some k) (position_from (nat_le n) (k + 1) ms) ≡ None → with_its_number n (m ∷ ms) ≡ m ∷ (ms ++ n ∷ [])
last_by n m ms k true low rest e = absurd (cc)
last_by n m ms k false high rest e = cond-false (nat_le n m) _ _ high ∙ ap (λ xs. m ∷ xs) (rest e)

last_from : (n : ℕ) (xs : List ℕ) (k : ℕ) → position_from (nat_le n) k xs ≡ None → with_its_number n xs ≡ xs ++ n ∷ []
last_from n [] k e = refl
last_from n (m ∷ ms) k e = last_by n m ms k (nat_le n m) refl (last_from n ms (k + 1)) e

-- a number above all others comes last
pub comes_last : (n : ℕ) (xs : List ℕ) → position_from (nat_le n) 0 xs ≡ None → with_its_number n xs ≡ xs ++ n ∷ []
comes_last n xs e = last_from n xs 0 e
