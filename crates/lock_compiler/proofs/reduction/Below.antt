-- Tests of all numbers below one, and the numbers that pass.
use Rattle.std.specs.Prelude.{◌≡◌, ℕ, zero, suc, ◌+◌, ◌<◌, Bool, true, false, cond, List, [], ◌∷◌, ◌++◌, Contains, All, refl}
use Rattle.std.proofs.Common.{sym, ap, ◌∙◌, subst, inl, inr, arith}
use Rattle.std.proofs.lemmas.Bool.{and_parts, and_from, and_left, and_right, and_cases, cases_lt, cond-true, cond-false}
use Rattle.std.proofs.lemmas.List.Elements.{All-nil, All-push, All-weaker, Contains-push, Contains-append_left}
use Rattle.lock_compiler.specs.Reduced.{all_below, numbers_below}

pub all_below-not : (test : ℕ → Bool) (n k : ℕ) → k < n → test k ≡ false → all_below test n ≡ false
all_below-not test zero k h f = absurd (omega arith)
all_below-not test (suc n) k h f =
    elim (cases_lt k n) [
      | inl less ↦ and_left (all_below test n) (test n) (all_below-not test n k less f)
      | inr more ↦ and_right (all_below test n) (test n) (let same : n ≡ k = omega arith in ap test same ∙ f)
    ]

pub all_below-at : (test : ℕ → Bool) (n k : ℕ) → all_below test n ≡ true → k < n → test k ≡ true
all_below-at test zero k h lt = absurd (omega arith)
all_below-at test (suc n) k h lt =
    let p = and_parts (all_below test n) (test n) h in
    elim (cases_lt k n) [
      | inl less ↦ all_below-at test n k p.0 less
      | inr more ↦ let same : k ≡ n = omega arith in ap test same ∙ p.1
    ]

pub all_below-from : (test : ℕ → Bool) (n : ℕ) → ((k : ℕ) → k < n → test k ≡ true) → all_below test n ≡ true
all_below-from test zero f = refl
all_below-from test (suc n) f = and_from (all_below test n) (test n) (all_below-from test n (λ k h. f k (omega arith))) (f n (omega arith))

pub one_fails : (test : ℕ → Bool) (n : ℕ) → all_below test n ≡ false → (k : ℕ) × (k < n) × (test k ≡ false)
one_fails test zero e = absurd (cc)
one_fails test (suc n) e =
    elim (and_cases (all_below test n) (test n) e) [
      | inl before ↦ let f = one_fails test n before in let lt : f.0 < n = f.1 in (f.0, omega arith, f.2)
      | inr here ↦ (n, omega arith, here)
    ]

-- the numbers that pass

pub one_more_number : (test : ℕ → Bool) (n : ℕ) (xs : List ℕ) → xs ≡ numbers_below test n → (test n ≡ true → xs ++ n ∷ [] ≡ numbers_below test (n + 1)) × (test n ≡ false → xs ≡ numbers_below test (n + 1))
one_more_number test n xs e =
    let next : suc n ≡ n + 1 = omega arith in (
      λ t. ap (λ ys. ys ++ n ∷ []) e ∙ sym (cond-true (test n) _ _ t) ∙ ap (numbers_below test) next,
      λ f. e ∙ sym (cond-false (test n) _ _ f) ∙ ap (numbers_below test) next,
    )

passing_by : (test : ℕ → Bool) (n k : ℕ) (t : Bool) → test n ≡ t → k < suc n → test k ≡ true → (k < n → Contains (numbers_below test n) k)
    → Contains (cond t (numbers_below test n ++ n ∷ []) (numbers_below test n)) k
passing_by test n k true e lt pass rest =
    elim (cases_lt k n) [
      | inl less ↦ Contains-append_left (numbers_below test n) (n ∷ []) k (rest less)
      | inr more ↦
          let same : n ≡ k = omega arith in
          let P : ℕ → Type 0 = λ m. Contains (numbers_below test n ++ n ∷ []) m in
          subst P same (Contains-push (numbers_below test n) n)
    ]
passing_by test n k false e lt pass rest =
    elim (cases_lt k n) [
      | inl less ↦ rest less
      | inr more ↦ absurd (let same : k ≡ n = omega arith in let f : test k ≡ false = ap test same ∙ e in cc)
    ]

pub passing_in : (test : ℕ → Bool) (n k : ℕ) → k < n → test k ≡ true → Contains (numbers_below test n) k
passing_in test zero k lt pass = absurd (omega arith)
passing_in test (suc n) k lt pass = passing_by test n k (test n) refl lt pass (λ less. passing_in test n k less pass)

below_by : (n : ℕ) (xs : List ℕ) (t : Bool) → All (λ k. k < n) xs → All (λ k. k < suc n) (cond t (xs ++ n ∷ []) xs)
below_by n xs true h = All-push (λ k. k < suc n) xs n (All-weaker (λ k. k < n) (λ k. k < suc n) (λ k lt. omega arith) xs h) (omega arith)
below_by n xs false h = All-weaker (λ k. k < n) (λ k. k < suc n) (λ k lt. omega arith) xs h

pub all_numbers_below : (test : ℕ → Bool) (n : ℕ) → All (λ k. k < n) (numbers_below test n)
all_numbers_below test zero = All-nil (λ k. k < zero)
all_numbers_below test (suc n) = below_by n (numbers_below test n) (test n) (all_numbers_below test n)
