-- The entries that hold 0: their count, and the map without them.
use Rattle.std.specs.Prelude.{◌≡◌, ℕ, ◌+◌, ℤ, pos, Bool, true, false, cond, not, List, [], ◌∷◌, Option, Some, None, unwrap_or, filter, refl, FitsSigned}
use Rattle.std.specs.Int.{w64}
use Rattle.std.proofs.Common.{sym, ◌∙◌, ap, subst, arith, zero-add}
use Rattle.std.specs.Ordering.{int_eq}
use Rattle.std.specs.Cmp.{int_eq_equiv, signed_Decides}
use Rattle.std.specs.List.{IsDistinct}
use Rattle.std.specs.Map.{lookup, keys_of}
use Rattle.std.specs.FinMap as map
use Rattle.std.proofs.lemmas.List.Sums.{sum_by-cons}
use Rattle.std.proofs.lemmas.Map.Entries.{option_filter, lookup-filter-values}
use Rattle.indexmap.specs.IndexMap.{insert_entry}
use Rattle.number_rows.specs.Entries.{FitAll, is_zero, dead_in, one_if, found_zero}
use Rattle.number_rows.specs.NumbersAsRows.{number_in}
use Rattle.number_rows.proofs.entries.Lookups.{get-entries}

dead_cons : (e : ℤ × ℤ) (es : List (ℤ × ℤ)) → dead_in (e ∷ es) ≡ one_if (is_zero e.1) + dead_in es
dead_cons e es = sum_by-cons (λ e. one_if (is_zero e.1)) e es

count_here : (n m p q d : ℕ) → n ≡ p + d → m ≡ q + d → n + q ≡ m + p
count_here n m p q d e h = omega arith

count_later : (n m o p q d f : ℕ) → n ≡ q + d → m ≡ q + f → d + o ≡ f + p → n + o ≡ m + p
count_later n m o p q d f e h i = omega arith

-- what an insert does to the count of dead entries
pub dead_in-insert : (es : List (ℤ × ℤ)) (k x : ℤ) → dead_in (insert_entry int_eq es k x) + one_if (found_zero (lookup (int_eq k) es)) ≡ dead_in es + one_if (is_zero x)
dead_in-insert [] k x = count_here _ _ _ 0 0 (dead_cons (k, x) []) refl
dead_in-insert (e ∷ es) k x =
    elim (int_eq k e.0) as (λ b. dead_in (cond b ((e.0, x) ∷ es) (e ∷ insert_entry int_eq es k x)) + one_if (found_zero (cond b (Some e.1) (lookup (int_eq k) es))) ≡ dead_in (e ∷ es) + one_if (is_zero x)) [
      | true ↦ count_here _ _ _ _ (dead_in es) (dead_cons (e.0, x) es) (dead_cons e es)
      | false ↦ count_later _ _ _ _ _ _ _ (dead_cons e (insert_entry int_eq es k x)) (dead_cons e es) (dead_in-insert es k x)
    ]

-- the count after an insert
pub dead_after : (es fs : List (ℤ × ℤ)) (k x : ℤ) (was : Option ℤ) (dead more less : ℕ) → was ≡ lookup (int_eq k) es → fs ≡ insert_entry int_eq es k x
    → dead ≡ dead_in es → more ≡ one_if (is_zero x) → less ≡ one_if (found_zero was) → dead_in fs + less ≡ dead + more
dead_after es fs k x was dead more less w h d m l =
    ap (λ b. dead_in fs + b) (l ∙ ap (λ o. one_if (found_zero o)) w) ∙ ap (λ gs. dead_in gs + one_if (found_zero (lookup (int_eq k) es))) h
    ∙ dead_in-insert es k x ∙ ap (λ n. n + one_if (is_zero x)) (sym d) ∙ ap (λ n. dead + n) (sym m)

-- without its dead entries, a map has the same numbers
kept_by : (o : Option ℤ) → unwrap_or (option_filter (λ x. not (is_zero x)) o) (pos 0) ≡ unwrap_or o (pos 0)
kept_by None = refl
kept_by (Some x) = kept_at (is_zero x) refl
  where
    kept_at : (b : Bool) → is_zero x ≡ b → unwrap_or (cond (not b) (Some x) None) (pos 0) ≡ x
    kept_at true e = sym ((signed_Decides x (pos 0)).0 e)
    kept_at false e = refl

abbrev pub live_entries : List (ℤ × ℤ) → List (ℤ × ℤ)
live_entries es = filter (λ e. not (is_zero e.1)) es

pub number-live : (es : List (ℤ × ℤ)) → IsDistinct int_eq (keys_of es) → (q : ℤ) → unwrap_or (lookup (int_eq q) (live_entries es)) (pos 0) ≡ unwrap_or (lookup (int_eq q) es) (pos 0)
number-live es d q = ap (λ o. unwrap_or o (pos 0)) (lookup-filter-values int_eq_equiv (λ x. not (is_zero x)) q es d) ∙ kept_by (lookup (int_eq q) es)

pub FitAll-live : (es : List (ℤ × ℤ)) → IsDistinct int_eq (keys_of es) → FitAll es → FitAll (live_entries es)
FitAll-live es d h q = subst (FitsSigned w64) (sym (number-live es d q)) (h q)

pub number_in-live : (es : List (ℤ × ℤ)) → IsDistinct int_eq (keys_of es) → (q : ℤ) → number_in (map.from_entries (live_entries es)) q ≡ number_in (map.from_entries es) q
number_in-live es d q = ap (λ o. unwrap_or o (pos 0)) (get-entries (live_entries es) q) ∙ number-live es d q ∙ sym (ap (λ o. unwrap_or o (pos 0)) (get-entries es q))

dead_by : (b : Bool) (e : ℤ × ℤ) (es : List (ℤ × ℤ)) → is_zero e.1 ≡ b → dead_in es ≡ 0 → dead_in (cond (not b) (e ∷ es) es) ≡ 0
dead_by true e es z h = h
dead_by false e es z h = dead_cons e es ∙ ap (λ b. one_if b + dead_in es) z ∙ zero-add (dead_in es) ∙ h

-- and no dead one
pub dead_in-live : (es : List (ℤ × ℤ)) → dead_in (live_entries es) ≡ 0
dead_in-live [] = refl
dead_in-live (e ∷ es) = dead_by (is_zero e.1) e (live_entries es) refl (dead_in-live es)
