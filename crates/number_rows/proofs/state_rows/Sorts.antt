-- The rows of a state that numbers by key are.
use Rattle.std.specs.Prelude.{◌≡◌, ℕ, ℤ, pos, Bool, true, false, cond, List, [], ◌∷◌, Option, Some, None, unwrap_or, refl, FitsSigned, ◌==◌}
use Rattle.std.specs.Int.{w64}
use Rattle.std.proofs.Common.{sym, ◌∙◌, ap, subst}
use Rattle.std.specs.Ordering.{int_cmp, int_eq}
use Rattle.std.specs.Cmp.{int_cmp_total, unsigned_Decides, signed_Decides}
use Rattle.std.specs.FinMap as map
use Rattle.gx_base.specs.States.{row_cmp, rows_with, first_or_zero, IsNumberRow}
use Rattle.gx_base.proofs.CallerLemmas.{row_cmp_total, row_cmp-IsAntisymmetric, get-rows_with, same_row, same_row-is, same_row-sort, row_for, row_for-IsNumberRow}
use Rattle.number_rows.specs.NumbersAsRows.{number_in, entries_onto, rows_onto}

-- what stands where a number was found, or not
abbrev pub row_or : Option (List ℤ) → Option ℤ → Option (List ℤ)
row_or below None = below
row_or below (Some x) = row_for x

-- no row of this sort
abbrev pub IsFree : map.FinMap row_cmp (List ℤ) → ℕ → Type 0
IsFree base sort = (k : ℤ) → map.get base (sort, k) ≡ None

false_of : (b : Bool) → (b ≡ true → ⊥) → b ≡ false
false_of true h = absurd (h refl)
false_of false h = refl

-- rows of two sorts are never the same
pub apart_sorts : (i j : ℕ) (k x : ℤ) → (i ≡ j → ⊥) → same_row (i, k) (j, x) ≡ false
apart_sorts i j k x n = false_of _ (λ t. n (ap (λ (r : ℕ × ℤ). r.0) (same_row-is (i, k) (j, x) t)))

here_by : (b c : Bool) (x : ℤ) (below : Option (List ℤ)) (p : Option (List ℤ)) (o : Option ℤ) → b ≡ c → p ≡ row_or below o → cond b (row_for x) p ≡ row_or below (cond c (Some x) o)
here_by true true x below p o e h = refl
here_by true false x below p o e h = absurd (cc)
here_by false true x below p o e h = absurd (cc)
here_by false false x below p o e h = h

get-entries_onto : (base : map.FinMap row_cmp (List ℤ)) (sort : ℕ) (es : List (ℤ × ℤ)) (k : ℤ) → map.get (entries_onto base sort es) (sort, k) ≡ row_or (map.get base (sort, k)) (map.find int_cmp k es)
get-entries_onto base sort [] k = refl
get-entries_onto base sort (e ∷ es) k =
    get-rows_with (entries_onto base sort es) (sort, e.0) e.1 (sort, k)
    ∙ here_by (same_row (sort, k) (sort, e.0)) (int_eq k e.0) e.1 (map.get base (sort, k)) _ _ (same_row-sort sort k e.0) (get-entries_onto base sort es k)

-- a row of the sort
pub get-rows_onto : (base : map.FinMap row_cmp (List ℤ)) (sort : ℕ) (m : map.FinMap int_cmp ℤ) (k : ℤ) → map.get (rows_onto base sort m) (sort, k) ≡ row_or (map.get base (sort, k)) (map.get m k)
unfolding rows_onto
get-rows_onto base sort m k = get-entries_onto base sort (map.entries m) k ∙ ap (row_or (map.get base (sort, k))) (sym (map.get-entries m k))

get-entries_onto-other : (base : map.FinMap row_cmp (List ℤ)) (sort : ℕ) (es : List (ℤ × ℤ)) (i : ℕ) (k : ℤ) → (i ≡ sort → ⊥) → map.get (entries_onto base sort es) (i, k) ≡ map.get base (i, k)
get-entries_onto-other base sort [] i k n = refl
get-entries_onto-other base sort (e ∷ es) i k n =
    get-rows_with (entries_onto base sort es) (sort, e.0) e.1 (i, k)
    ∙ ap (λ b. cond b (row_for e.1) (map.get (entries_onto base sort es) (i, k))) (apart_sorts i sort k e.0 n)
    ∙ get-entries_onto-other base sort es i k n

-- a row of another sort
pub get-rows_onto-other : (base : map.FinMap row_cmp (List ℤ)) (sort : ℕ) (m : map.FinMap int_cmp ℤ) (i : ℕ) (k : ℤ) → (i ≡ sort → ⊥) → map.get (rows_onto base sort m) (i, k) ≡ map.get base (i, k)
unfolding rows_onto
get-rows_onto-other base sort m i k n = get-entries_onto-other base sort (map.entries m) i k n

pub IsFree-rows_onto : (base : map.FinMap row_cmp (List ℤ)) (sort : ℕ) (m : map.FinMap int_cmp ℤ) (i : ℕ) → (i ≡ sort → ⊥) → IsFree base i → IsFree (rows_onto base sort m) i
IsFree-rows_onto base sort m i n h k = get-rows_onto-other base sort m i k n ∙ h k

-- rows with these look-ups at one sort, and those of base at the others
by_sorts : (base : map.FinMap row_cmp (List ℤ)) (sort : ℕ) (m : map.FinMap int_cmp ℤ) (other : map.FinMap row_cmp (List ℤ))
    → ((k : ℤ) → map.get other (sort, k) ≡ row_or (map.get base (sort, k)) (map.get m k))
    → ((i : ℕ) (k : ℤ) → (i ≡ sort → ⊥) → map.get other (i, k) ≡ map.get base (i, k))
    → rows_onto base sort m ≡ other
by_sorts base sort m other here there = map.same_map row_cmp_total row_cmp-IsAntisymmetric _ _ (λ q. at q.0 q.1 (q.0 == sort) refl)
  where
    at : (i : ℕ) (k : ℤ) (b : Bool) → (i == sort) ≡ b → map.get (rows_onto base sort m) (i, k) ≡ map.get other (i, k)
    at i k true e =
        let z : i ≡ sort = (unsigned_Decides i sort).0 e in
        subst (λ j. map.get (rows_onto base sort m) (j, k) ≡ map.get other (j, k)) (sym z) (get-rows_onto base sort m k ∙ sym (here k))
    at i k false e =
        let n : i ≡ sort → ⊥ = λ z. let t : (i == sort) ≡ true = (unsigned_Decides i sort).1 z in cc in
        get-rows_onto-other base sort m i k n ∙ sym (there i k n)

pushed : (b c : Bool) (x : ℤ) (below : Option (List ℤ)) (o : Option ℤ) → b ≡ c → cond b (row_for x) (row_or below o) ≡ row_or below (cond c (Some x) o)
pushed b c x below o e = here_by b c x below (row_or below o) o e refl

-- a number that is written is a row that is written
pub rows_onto-insert : (base : map.FinMap row_cmp (List ℤ)) (sort : ℕ) (m : map.FinMap int_cmp ℤ) (k x : ℤ) → rows_onto base sort (map.insert m k x) ≡ rows_with (rows_onto base sort m) (sort, k) x
rows_onto-insert base sort m k x = by_sorts base sort (map.insert m k x) (rows_with (rows_onto base sort m) (sort, k) x)
    (λ q. get-rows_with (rows_onto base sort m) (sort, k) x (sort, q)
    ∙ ap (cond (same_row (sort, q) (sort, k)) (row_for x)) (get-rows_onto base sort m q)
    ∙ pushed (same_row (sort, q) (sort, k)) (int_eq q k) x (map.get base (sort, q)) (map.get m q) (same_row-sort sort q k)
    ∙ ap (row_or (map.get base (sort, q))) (sym (map.get-insert int_cmp_total m k x q)))
    (λ i q n. get-rows_with (rows_onto base sort m) (sort, k) x (i, q)
    ∙ ap (λ b. cond b (row_for x) (map.get (rows_onto base sort m) (i, q))) (apart_sorts i sort q k n)
    ∙ get-rows_onto-other base sort m i q n)

-- a row of another sort may be written before or after
pub rows_onto-rows_with : (base : map.FinMap row_cmp (List ℤ)) (sort : ℕ) (m : map.FinMap int_cmp ℤ) (i : ℕ) (k x : ℤ) → (sort ≡ i → ⊥) → rows_onto (rows_with base (i, k) x) sort m ≡ rows_with (rows_onto base sort m) (i, k) x
rows_onto-rows_with base sort m i k x n = by_sorts (rows_with base (i, k) x) sort m (rows_with (rows_onto base sort m) (i, k) x)
    (λ q. get-rows_with (rows_onto base sort m) (i, k) x (sort, q)
    ∙ ap (λ b. cond b (row_for x) (map.get (rows_onto base sort m) (sort, q))) (apart_sorts sort i q k n)
    ∙ get-rows_onto base sort m q
    ∙ sym (ap (λ o. row_or o (map.get m q)) (get-rows_with base (i, k) x (sort, q) ∙ ap (λ b. cond b (row_for x) (map.get base (sort, q))) (apart_sorts sort i q k n))))
    (λ j q d. get-rows_with (rows_onto base sort m) (i, k) x (j, q)
    ∙ ap (cond (same_row (j, q) (i, k)) (row_for x)) (get-rows_onto-other base sort m j q d)
    ∙ sym (get-rows_with base (i, k) x (j, q)))

number_by : (o : Option ℤ) → first_or_zero (row_or None o) ≡ unwrap_or o (pos 0)
number_by None = refl
number_by (Some x) = first_by (int_eq x (pos 0)) refl
  where
    first_by : (b : Bool) → int_eq x (pos 0) ≡ b → first_or_zero (cond b None (Some (x ∷ []))) ≡ x
    first_by true e = sym ((signed_Decides x (pos 0)).0 e)
    first_by false e = refl

-- the number in a row
pub number-rows_onto : (base : map.FinMap row_cmp (List ℤ)) (sort : ℕ) (m : map.FinMap int_cmp ℤ) (k : ℤ) → IsFree base sort → first_or_zero (map.get (rows_onto base sort m) (sort, k)) ≡ number_in m k
number-rows_onto base sort m k h = ap first_or_zero (get-rows_onto base sort m k ∙ ap (λ o. row_or o (map.get m k)) (h k)) ∙ number_by (map.get m k)

-- rows where each holds one number other than 0
abbrev pub HoldNumbers : map.FinMap row_cmp (List ℤ) → Type 0
HoldNumbers rows = (key : ℕ × ℤ) → IsNumberRow (map.get rows key)

row_by : (below : Option (List ℤ)) (o : Option ℤ) → IsNumberRow below → FitsSigned w64 (unwrap_or o (pos 0)) → IsNumberRow (row_or below o)
row_by below None h f = h
row_by below (Some x) h f = row_for-IsNumberRow x f

-- numbers of 64 bits keep such rows
pub HoldNumbers-rows_onto : (base : map.FinMap row_cmp (List ℤ)) (sort : ℕ) (m : map.FinMap int_cmp ℤ) → HoldNumbers base → ((k : ℤ) → FitsSigned w64 (number_in m k)) → HoldNumbers (rows_onto base sort m)
HoldNumbers-rows_onto base sort m h f key = at key.0 key.1 (key.0 == sort) refl
  where
    at : (i : ℕ) (k : ℤ) (b : Bool) → (i == sort) ≡ b → IsNumberRow (map.get (rows_onto base sort m) (i, k))
    at i k true e =
        let z : i ≡ sort = (unsigned_Decides i sort).0 e in
        subst (λ j. IsNumberRow (map.get (rows_onto base sort m) (j, k))) (sym z) (subst IsNumberRow (sym (get-rows_onto base sort m k)) (row_by _ (map.get m k) (h (sort, k)) (f k)))
    at i k false e =
        let n : i ≡ sort → ⊥ = λ z. let t : (i == sort) ≡ true = (unsigned_Decides i sort).1 z in cc in
        subst IsNumberRow (sym (get-rows_onto-other base sort m i k n)) (h (i, k))

same_rows : (o p : Option ℤ) → unwrap_or o (pos 0) ≡ unwrap_or p (pos 0) → row_or None o ≡ row_or None p
same_rows None None e = refl
same_rows None (Some y) e = ap row_for e
same_rows (Some x) None e = ap row_for e
same_rows (Some x) (Some y) e = ap row_for e

-- the same numbers are the same rows
pub rows_onto-same : (base : map.FinMap row_cmp (List ℤ)) (sort : ℕ) (m n : map.FinMap int_cmp ℤ) → IsFree base sort → ((k : ℤ) → number_in m k ≡ number_in n k) → rows_onto base sort m ≡ rows_onto base sort n
rows_onto-same base sort m n free h = by_sorts base sort m (rows_onto base sort n)
    (λ q. get-rows_onto base sort n q ∙ ap (λ o. row_or o (map.get n q)) (free q) ∙ same_rows (map.get n q) (map.get m q) (sym (h q)) ∙ sym (ap (λ o. row_or o (map.get m q)) (free q)))
    (λ i q d. get-rows_onto-other base sort n i q d)

-- no number is no row
pub rows_onto-empty : (base : map.FinMap row_cmp (List ℤ)) (sort : ℕ) → rows_onto base sort map.empty ≡ base
rows_onto-empty base sort = by_sorts base sort map.empty base (λ k. sym (ap (row_or (map.get base (sort, k))) (map.get-empty int_cmp k))) (λ i k n. refl)
