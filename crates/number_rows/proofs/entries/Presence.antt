-- Which keys have rows after a write.
use Rattle.std.specs.Prelude.{◌≡◌, ℤ, Bool, true, false, cond, Option, Some, Result, Ok, Err, OnOk, OnErr, IsTrue, is_some, refl}
use Rattle.std.proofs.Common.{sym, ◌∙◌, ap, subst}
use Rattle.std.specs.Ordering.{int_cmp, int_eq}
use Rattle.std.specs.Cmp.{int_cmp_total, int_eq_equiv}
use Rattle.std.specs.FinMap as map
use Rattle.number_rows.specs.declared.rows.NumberRows.{NumberRows}
use Rattle.number_rows.specs.NumberRows.{number_rows_of}

-- the key that is written has a row, and a row that is there stays
pub contains_key-insert : (m : map.FinMap int_cmp ℤ) (k x q : ℤ) → IsTrue (map.contains_key m q) → IsTrue (map.contains_key (map.insert m k x) q)
contains_key-insert m k x q h = subst (λ o. IsTrue (is_some o)) (sym (map.get-insert int_cmp_total m k x q)) (some_by (int_eq q k) (map.get m q) h)
  where
    some_by : (b : Bool) (o : Option ℤ) → IsTrue (is_some o) → IsTrue (is_some (cond b (Some x) o))
    some_by true o h = refl
    some_by false o h = h

pub contains_key-inserted : (m : map.FinMap int_cmp ℤ) (k x : ℤ) → IsTrue (map.contains_key (map.insert m k x) k)
contains_key-inserted m k x = subst (λ o. IsTrue (is_some o)) (sym (map.get-insert int_cmp_total m k x k ∙ ap (λ b. cond b (Some x) (map.get m k)) (int_eq_equiv.refl k))) refl

-- whether or not a write was refused, each row stays
pub kept_after_write : {T E : Type 0} (r : Result T E) (m n : map.FinMap int_cmp ℤ) (k x : ℤ) → OnOk r (n ≡ map.insert m k x) → OnErr r (n ≡ m) → (q : ℤ) → IsTrue (map.contains_key m q) → IsTrue (map.contains_key n q)
kept_after_write (Ok t) m n k x ok err q h = subst (λ l. IsTrue (map.contains_key l q)) (sym ok) (contains_key-insert m k x q h)
kept_after_write (Err e) m n k x ok err q h = subst (λ l. IsTrue (map.contains_key l q)) (sym err) h

-- each row stays
abbrev pub KeepsRows : NumberRows → NumberRows → Type 0
KeepsRows old new = (q : ℤ) → IsTrue (map.contains_key (number_rows_of old) q) → IsTrue (map.contains_key (number_rows_of new) q)

-- where the key and the number were written as bits
pub put_at : (m n : map.FinMap int_cmp ℤ) (k kk x xx : ℤ) → kk ≡ k → xx ≡ x → n ≡ map.insert m kk xx → n ≡ map.insert m k x
put_at m n k kk x xx ek ex w = w ∙ ap (λ z. map.insert m z xx) ek ∙ ap (λ z. map.insert m k z) ex

pub wrote_there : (m n : map.FinMap int_cmp ℤ) (k kk x : ℤ) → kk ≡ k → n ≡ map.insert m kk x → IsTrue (map.contains_key n k)
wrote_there m n k kk x e w = subst (λ l. IsTrue (map.contains_key l k)) (sym (w ∙ ap (λ z. map.insert m z x) e)) (contains_key-inserted m k x)

pub rewrote_kept : (m n : map.FinMap int_cmp ℤ) (k x : ℤ) → n ≡ map.insert m k x → (q : ℤ) → IsTrue (map.contains_key m q) → IsTrue (map.contains_key n q)
rewrote_kept m n k x w q h = subst (λ l. IsTrue (map.contains_key l q)) (sym w) (contains_key-insert m k x q h)
