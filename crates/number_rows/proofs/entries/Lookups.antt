-- What the entries of a hashed map of numbers hold.
use Rattle.std.specs.Prelude.{◌≡◌, ℤ, pos, cond, List, [], ◌∷◌, Some, None, unwrap_or, is_some, refl, FitsSigned}
use Rattle.std.specs.Int.{w64}
use Rattle.std.proofs.Common.{sym, ◌∙◌, ap, subst}
use Rattle.std.specs.Ordering.{int_eq, int_cmp}
use Rattle.std.specs.Cmp.{int_cmp_total, int_eq_equiv}
use Rattle.std.specs.Map.{lookup}
use Rattle.std.specs.FinMap as map
use Rattle.number_rows.specs.Entries.{FitAll}
use Rattle.number_rows.specs.NumbersAsRows.{number_in}
use Rattle.number_rows.specs.declared.rows.NumberRows.{NumberRows}
use Rattle.number_rows.specs.NumberRows.{number_rows_of}

find-lookup : (es : List (ℤ × ℤ)) (q : ℤ) → map.find int_cmp q es ≡ lookup (int_eq q) es
find-lookup [] q = refl
find-lookup (e ∷ es) q = ap (cond (int_eq q e.0) (Some e.1)) (find-lookup es q)

-- the finite map of the entries has what a look-up finds
pub get-entries : (es : List (ℤ × ℤ)) (q : ℤ) → map.get (map.from_entries {R = int_cmp} es) q ≡ lookup (int_eq q) es
get-entries es q = map.get-from_entries int_cmp_total es q ∙ find-lookup es q

-- where the key and the number were read as bits
pub found : (es : List (ℤ × ℤ)) (k kk x y : ℤ) → kk ≡ k → y ≡ x → Some x ≡ lookup (int_eq kk) es → Some y ≡ map.get (map.from_entries {R = int_cmp} es) k
found es k kk x y e h l = ap Some h ∙ l ∙ ap (λ z. lookup (int_eq z) es) e ∙ sym (get-entries es k)

pub not_found : (es : List (ℤ × ℤ)) (k kk : ℤ) → kk ≡ k → None ≡ lookup (int_eq kk) es → None ≡ map.get (map.from_entries {R = int_cmp} es) k
not_found es k kk e l = l ∙ ap (λ z. lookup (int_eq z) es) e ∙ sym (get-entries es k)

pub there : (es : List (ℤ × ℤ)) (k kk : ℤ) → kk ≡ k → is_some (lookup (int_eq kk) es) ≡ map.contains_key (map.from_entries {R = int_cmp} es) k
there es k kk e = ap is_some (ap (λ z. lookup (int_eq z) es) e ∙ sym (get-entries es k))

-- an update of one key is an insert in the finite map
pub from_entries-update : (es fs : List (ℤ × ℤ)) (k x : ℤ) → ((q : ℤ) → lookup (int_eq q) fs ≡ cond (int_eq k q) (Some x) (lookup (int_eq q) es)) → map.from_entries {R = int_cmp} fs ≡ map.insert (map.from_entries es) k x
from_entries-update es fs k x u = map.same_map int_cmp_total map.int_cmp-IsAntisymmetric _ _ (λ q.
    get-entries fs q ∙ u q ∙ ap (λ b. cond b (Some x) (lookup (int_eq q) es)) (int_eq_equiv.symm k q)
    ∙ sym (map.get-insert int_cmp_total (map.from_entries es) k x q ∙ ap (cond (int_eq q k) (Some x)) (get-entries es q)))

pub from_entries-update_at : (es fs : List (ℤ × ℤ)) (k kk x xx : ℤ) → kk ≡ k → xx ≡ x → ((q : ℤ) → lookup (int_eq q) fs ≡ cond (int_eq kk q) (Some xx) (lookup (int_eq q) es)) → map.from_entries {R = int_cmp} fs ≡ map.insert (map.from_entries es) k x
from_entries-update_at es fs k kk x xx e f u = from_entries-update es fs kk xx u ∙ ap (λ z. map.insert (map.from_entries es) z xx) e ∙ ap (λ z. map.insert (map.from_entries es) k z) f

-- a number that is read fits
pub FitAll-number_in : (es : List (ℤ × ℤ)) → FitAll es → (q : ℤ) → FitsSigned w64 (number_in (map.from_entries es) q)
FitAll-number_in es h q = subst (FitsSigned w64) (sym (ap (λ o. unwrap_or o (pos 0)) (get-entries es q))) (h q)

-- each number is one of 64 bits
pub number-fits : (rows : NumberRows) (k : ℤ) → FitsSigned w64 (number_in (number_rows_of rows) k)
number-fits rows k = FitAll-number_in rows.numbers.entries rows.fit k
