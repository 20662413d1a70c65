-- How many numbers below a bound have a property, and sums over the numbers below a bound.
use Rattle.std.proofs.Common.{◌≡◌, ◌⊎◌, inl, inr, ℕ, zero, suc, ◌+◌, ◌<◌, ◌≤◌, Bool, true, false, if◌then◌else◌, refl, sym, ap, ◌∙◌, arith}
use Rattle.std.specs.Prelude.{◌==◌}
use Rattle.std.specs.Cmp.{unsigned_Decides}
use Rattle.std.proofs.lemmas.Bool.{cases_lt}

pub numbers_equal : (n k : ℕ) → (n == k) ≡ true → n ≡ k
numbers_equal n k e = (unsigned_Decides n k).0 e

pub same_number : (n : ℕ) → (n == n) ≡ true
same_number n = (unsigned_Decides n n).1 refl

-- a test that can't be true
pub no : (b : Bool) → (b ≡ true → ⊥) → b ≡ false
no true h = absurd (h refl)
no false h = refl

pub no_bool : (b : Bool) → b ≡ true → b ≡ false → ⊥
no_bool true e f = absurd (cc)
no_bool false e f = absurd (cc)

pub unequal : (n k : ℕ) → (n ≡ k → ⊥) → (n == k) ≡ false
unequal n k h = no (n == k) (λ t. h (numbers_equal n k t))

-- ---- how many

abbrev pub bit : Bool → ℕ
bit b = if b then 1 else 0

bit_up : (a b : Bool) → (a ≡ true → b ≡ true) → bit a ≤ bit b
bit_up false b h = omega arith
bit_up true true h = omega arith
bit_up true false h = absurd (let e : false ≡ true = h refl in cc)

bit_most : (a : Bool) → bit a ≤ 1
bit_most true = omega arith
bit_most false = omega arith

abbrev pub count : (ℕ → Bool) → ℕ → ℕ
count f zero = 0
count f (suc n) = bit (f n) + count f n

count_up : (f g : ℕ → Bool) → ((k : ℕ) → f k ≡ true → g k ≡ true) → (n : ℕ) → count f n ≤ count g n
count_up f g h zero = omega arith
count_up f g h (suc n) =
    let here : bit (f n) ≤ bit (g n) = bit_up (f n) (g n) (h n) in
    let rest : count f n ≤ count g n = count_up f g h n in
    omega arith

-- one number has only the second property
pub count_less : (f g : ℕ → Bool) → ((k : ℕ) → f k ≡ true → g k ≡ true) → (i : ℕ) → f i ≡ false → g i ≡ true → (n : ℕ) → i < n → count f n < count g n
count_less f g h i e t zero l = absurd (omega arith)
count_less f g h i e t (suc n) l = by (cases_lt i n) (λ less. count_less f g h i e t n less)
  where
    by : (i < n) ⊎ (n ≤ i) → (i < n → count f n < count g n) → count f (suc n) < count g (suc n)
    by (inl less) before =
        let here : bit (f n) ≤ bit (g n) = bit_up (f n) (g n) (h n) in
        let rest : count f n < count g n = before less in
        omega arith
    by (inr more) before =
        let is : n ≡ i = omega arith in
        let here : bit (f n) ≡ 0 = ap bit (ap f is ∙ e) in
        let there : bit (g n) ≡ 1 = ap bit (ap g is ∙ t) in
        let rest : count f n ≤ count g n = count_up f g h n in
        omega arith

count_most : (f : ℕ → Bool) (n : ℕ) → count f n ≤ n
count_most f zero = omega arith
count_most f (suc n) =
    let here : bit (f n) ≤ 1 = bit_most (f n) in
    let rest : count f n ≤ n = count_most f n in
    omega arith

-- one number hasn't the property
pub count_below : (f : ℕ → Bool) (i : ℕ) → f i ≡ false → (n : ℕ) → i < n → count f n < n
count_below f i e zero l = absurd (omega arith)
count_below f i e (suc n) l = by (cases_lt i n) (λ less. count_below f i e n less)
  where
    by : (i < n) ⊎ (n ≤ i) → (i < n → count f n < n) → count f (suc n) < suc n
    by (inl less) before =
        let here : bit (f n) ≤ 1 = bit_most (f n) in
        let rest : count f n < n = before less in
        omega arith
    by (inr more) before =
        let is : n ≡ i = omega arith in
        let here : bit (f n) ≡ 0 = ap bit (ap f is ∙ e) in
        let rest : count f n ≤ n = count_most f n in
        omega arith

-- ---- sums

abbrev pub total : (ℕ → ℕ) → ℕ → ℕ
total f zero = 0
total f (suc n) = f n + total f n

total_same : (f g : ℕ → ℕ) (n : ℕ) → ((k : ℕ) → k < n → g k ≡ f k) → total g n ≡ total f n
total_same f g zero h = refl
total_same f g (suc n) h =
    let here : g n ≡ f n = h n (omega arith) in
    let rest : total g n ≡ total f n = total_same f g n (λ k l. h k (omega arith)) in
    omega arith

-- one term is another one
total_but : (f g : ℕ → ℕ) (i n : ℕ) → i < n → ((k : ℕ) → (k ≡ i → ⊥) → g k ≡ f k) → total g n + f i ≡ total f n + g i
total_but f g i zero l h = absurd (omega arith)
total_but f g i (suc n) l h = by (cases_lt i n) (λ less. total_but f g i n less h)
  where
    by : (i < n) ⊎ (n ≤ i) → (i < n → total g n + f i ≡ total f n + g i) → total g (suc n) + f i ≡ total f (suc n) + g i
    by (inl less) before =
        let here : g n ≡ f n = h n (λ e. omega arith) in
        let rest : total g n + f i ≡ total f n + g i = before less in
        omega arith
    by (inr more) before =
        let is : n ≡ i = omega arith in
        let old : f n ≡ f i = ap f is in
        let new : g n ≡ g i = ap g is in
        let rest : total g n ≡ total f n = total_same f g n (λ k below. h k (λ e. omega arith)) in
        omega arith

abbrev without : (ℕ → ℕ) → ℕ → ℕ → ℕ
without f j k = if k == j then 0 else f k

without_at : (f : ℕ → ℕ) (j : ℕ) → without f j j ≡ 0
without_at f j = ap (λ (b : Bool). if b then 0 else f j) (same_number j)

without_other : (f : ℕ → ℕ) (j k : ℕ) → (k ≡ j → ⊥) → without f j k ≡ f k
without_other f j k h = ap (λ (b : Bool). if b then 0 else f k) (unequal k j h)

-- one term moves to another one
pub total_moved : (f g : ℕ → ℕ) (i j n : ℕ) → i < n → j < n → (i ≡ j → ⊥) → g i ≡ f i + f j → g j ≡ 0 → ((k : ℕ) → (k ≡ i → ⊥) → (k ≡ j → ⊥) → g k ≡ f k) → total g n ≡ total f n
total_moved f g i j n li lj apart here there h =
    let first : total (without f j) n + f j ≡ total f n + without f j j = total_but f (without f j) j n lj (λ k o. without_other f j k o) in
    let gone : without f j j ≡ 0 = without_at f j in
    let kept : without f j i ≡ f i = without_other f j i apart in
    let second : total g n + without f j i ≡ total (without f j) n + g i = total_but (without f j) g i n li others in
    omega arith
  where
    others : (k : ℕ) → (k ≡ i → ⊥) → g k ≡ without f j k
    others k o = by (k == j) refl
      where
        by : (b : Bool) → (k == j) ≡ b → g k ≡ (if b then 0 else f k)
        by true e = ap g (numbers_equal k j e) ∙ there
        by false e = h k o (λ s. no_bool (k == j) (ap (λ (m : ℕ). k == m) (sym s) ∙ same_number k) e)

pub total_at : (f : ℕ → ℕ) (i n : ℕ) → i < n → f i ≤ total f n
total_at f i zero l = absurd (omega arith)
total_at f i (suc n) l = by (cases_lt i n) (λ less. total_at f i n less)
  where
    by : (i < n) ⊎ (n ≤ i) → (i < n → f i ≤ total f n) → f i ≤ total f (suc n)
    by (inl less) before = let rest : f i ≤ total f n = before less in omega arith
    by (inr more) before =
        let is : n ≡ i = omega arith in
        let same : f n ≡ f i = ap f is in
        omega arith

-- two terms
pub total_at_two : (f : ℕ → ℕ) (i j n : ℕ) → i < n → j < n → (i ≡ j → ⊥) → f i + f j ≤ total f n
total_at_two f i j n li lj apart =
    let first : total (without f j) n + f j ≡ total f n + without f j j = total_but f (without f j) j n lj (λ k o. without_other f j k o) in
    let gone : without f j j ≡ 0 = without_at f j in
    let kept : without f j i ≡ f i = without_other f j i apart in
    let second : without f j i ≤ total (without f j) n = total_at (without f j) i n li in
    omega arith

total_none : (f : ℕ → ℕ) (n : ℕ) → ((k : ℕ) → k < n → f k ≡ 0) → total f n ≡ 0
total_none f zero h = refl
total_none f (suc n) h =
    let here : f n ≡ 0 = h n (omega arith) in
    let rest : total f n ≡ 0 = total_none f n (λ k l. h k (omega arith)) in
    omega arith

-- no other term is more than 0
pub total_one : (f : ℕ → ℕ) (i n : ℕ) → i < n → ((k : ℕ) → k < n → (k ≡ i → ⊥) → f k ≡ 0) → total f n ≡ f i
total_one f i zero l h = absurd (omega arith)
total_one f i (suc n) l h = by (cases_lt i n) (λ less. total_one f i n less (λ k below o. h k (omega arith) o))
  where
    by : (i < n) ⊎ (n ≤ i) → (i < n → total f n ≡ f i) → total f (suc n) ≡ f i
    by (inl less) before =
        let here : f n ≡ 0 = h n (omega arith) (λ e. omega arith) in
        let rest : total f n ≡ f i = before less in
        omega arith
    by (inr more) before =
        let is : n ≡ i = omega arith in
        let same : f n ≡ f i = ap f is in
        let rest : total f n ≡ 0 = total_none f n (λ k below. h k (omega arith) (λ e. omega arith)) in
        omega arith

pub total_some : (f : ℕ → ℕ) (n : ℕ) → 0 < total f n → (i : ℕ) × (i < n) × (0 < f i)
total_some f zero l = absurd (omega arith)
total_some f (suc n) l = by (cases_lt 0 (f n)) (λ some. total_some f n some)
  where
    by : (0 < f n) ⊎ (f n ≤ 0) → (0 < total f n → (i : ℕ) × (i < n) × (0 < f i)) → (i : ℕ) × (i < suc n) × (0 < f i)
    by (inl some) before = let below : n < suc n = omega arith in (n, below, some)
    by (inr none) before =
        let rest : 0 < total f n = omega arith in
        let found : (i : ℕ) × (i < n) × (0 < f i) = before rest in
        let less : found.0 < n = found.1 in
        let below : found.0 < suc n = omega arith in
        (found.0, below, found.2)

pub total_units : (f : ℕ → ℕ) (n : ℕ) → ((k : ℕ) → k < n → f k ≡ 1) → total f n ≡ n
total_units f zero h = refl
total_units f (suc n) h =
    let here : f n ≡ 1 = h n (omega arith) in
    let rest : total f n ≡ n = total_units f n (λ k l. h k (omega arith)) in
    omega arith
