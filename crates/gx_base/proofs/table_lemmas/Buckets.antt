-- What a look-up in one bucket says of the rows of all buckets.
use Rattle.std.specs.Prelude.{◌≡◌, ℕ, zero, suc, ◌+◌, ◌<◌, ◌==◌, Bool, true, false, cond, ◌≤◌, List, [], ◌∷◌, ◌++◌, length, Vec, Option, Some, None, Result, Ok, Err, OnOk, OnErr, refl}
use Rattle.std.proofs.Common.{sym, ◌∙◌, ap, subst, arith, set, get_or, get_or-set_same, get_or-set_other, zero-add}
use Rattle.std.specs.declared.alloc.Global.{Global}
use Rattle.std.proofs.Math.Seq.{map-set_same}
use Rattle.std.proofs.lemmas.List.{map-set, map-append, length-map, get_or-map, get_or_past}
use Rattle.std.specs.Option.{option_or}
use Rattle.std.specs.List.{position_from}
use Rattle.std.proofs.lemmas.Bool.{eqb-true, eq-eqb}
use Rattle.std.specs.FinMap as finite
use Rattle.gx_base.specs.declared.tables.Row.{Row}
use Rattle.gx_base.specs.Conditions.{Condition, False, condition_of}
use Rattle.gx_base.specs.TableRows.{pair_cmp, row_of, row_or_false}
use Rattle.gx_base.proofs.table_lemmas.TableRowLaws.{pair_cmp_total, pair_cmp-IsAntisymmetric, same_pair, same_pair-is}
use Rattle.gx_base.specs.RowLists.{TableRow, is_row_of, table_rows_of, buckets_of, table_rows_in, row_map_of, bucket_number, AllBelong, IsBucket, AreBuckets, IsRowPut}
use Rattle.gx_base.proofs.table_lemmas.InBucket.{found_at, missed_at}

abbrev found_in : (ℕ × ℕ) → List TableRow → Option Condition
found_in q entries = finite.find pair_cmp q entries

found_in-append : (q : ℕ × ℕ) (xs ys : List TableRow) → found_in q (xs ++ ys) ≡ option_or (found_in q xs) (found_in q ys)
found_in-append q [] ys = refl
found_in-append q (x ∷ xs) ys =
    elim (same_pair q x.0) as (λ b. cond b (Some x.1) (found_in q (xs ++ ys)) ≡ option_or (cond b (Some x.1) (found_in q xs)) (found_in q ys)) [
      | true ↦ refl
      | false ↦ found_in-append q xs ys
    ]

option_or-none : (o : Option Condition) → option_or o None ≡ o
option_or-none None = refl
option_or-none (Some c) = refl

passed : (q : ℕ × ℕ) (x : TableRow) (rest : Option Condition) (b : Bool) → same_pair q x.0 ≡ b → (bucket_number q ≡ bucket_number x.0 → ⊥) → rest ≡ None → cond b (Some x.1) rest ≡ None
passed q x rest true e apart none = absurd (apart (ap bucket_number (same_pair-is q x.0 e)))
passed q x rest false e apart none = none

-- a pair doesn't stand in the bucket of others
missing : (number : ℕ) (entries : List TableRow) (q : ℕ × ℕ) → AllBelong number entries → (bucket_number q ≡ number → ⊥) → found_in q entries ≡ None
missing number [] q h apart = refl
missing number (x ∷ entries) q h apart = passed q x (found_in q entries) (same_pair q x.0) refl (λ e. apart (e ∙ h.0)) (missing number entries q h.1 apart)

-- nor in the buckets after its own
missing_later : (number : ℕ) (buckets : List (List TableRow)) (q : ℕ × ℕ) → AreBuckets number buckets → bucket_number q < number → found_in q (table_rows_in buckets) ≡ None
missing_later number [] q h below = refl
missing_later number (bucket ∷ buckets) q h below =
    found_in-append q bucket (table_rows_in buckets)
    ∙ ap (λ o. option_or o (found_in q (table_rows_in buckets))) (missing number bucket q h.0.belong (λ e. let lt : bucket_number q < number = below in omega arith))
    ∙ missing_later (number + 1) buckets q h.1 (omega arith)

found_from : (number : ℕ) (buckets : List (List TableRow)) (q : ℕ × ℕ) (i : ℕ) → AreBuckets number buckets → bucket_number q ≡ number + i → found_in q (table_rows_in buckets) ≡ found_in q (get_or buckets i [])
found_from number [] q i h e = refl
found_from number (bucket ∷ buckets) q zero h e =
    found_in-append q bucket (table_rows_in buckets)
    ∙ ap (option_or (found_in q bucket)) (missing_later (number + 1) buckets q h.1 (omega arith))
    ∙ option_or-none (found_in q bucket)
found_from number (bucket ∷ buckets) q (suc i) h e =
    found_in-append q bucket (table_rows_in buckets)
    ∙ ap (λ o. option_or o (found_in q (table_rows_in buckets))) (missing number bucket q h.0.belong (λ s. let at : bucket_number q ≡ number + suc i = e in omega arith))
    ∙ found_from (number + 1) buckets q i h.1 (omega arith)

-- the row of two methods is looked for in their bucket alone
pub get-row_map_of : (buckets : List (List TableRow)) (q : ℕ × ℕ) → AreBuckets 0 buckets → finite.get (row_map_of buckets) q ≡ finite.find pair_cmp q (get_or buckets (bucket_number q) [])
get-row_map_of buckets q h = finite.get-from_entries pair_cmp_total (table_rows_in buckets) q ∙ found_from 0 buckets q (bucket_number q) h (sym (zero-add (bucket_number q)))

bucket_from : (number : ℕ) (buckets : List (List TableRow)) (i : ℕ) → AreBuckets number buckets → i < length buckets → IsBucket (number + i) (get_or buckets i [])
bucket_from number [] i h below = absurd (omega arith)
bucket_from number (bucket ∷ buckets) zero h below = subst (λ n. IsBucket n bucket) (omega arith) h.0
bucket_from number (bucket ∷ buckets) (suc i) h below = subst (λ n. IsBucket n (get_or buckets i [])) (omega arith) (bucket_from (number + 1) buckets i h.1 (omega arith))

-- each bucket has its own entries
pub bucket_at : (buckets : List (List TableRow)) (i : ℕ) → AreBuckets 0 buckets → i < length buckets → IsBucket i (get_or buckets i [])
bucket_at buckets i h below = subst (λ n. IsBucket n (get_or buckets i [])) (zero-add i) (bucket_from 0 buckets i h below)

set_from : (number : ℕ) (buckets : List (List TableRow)) (i : ℕ) (bucket : List TableRow) → AreBuckets number buckets → IsBucket (number + i) bucket → AreBuckets number (set buckets i bucket)
set_from number [] i bucket h here = h
set_from number (x ∷ buckets) zero bucket h here = (subst (λ n. IsBucket n bucket) (omega arith) here, h.1)
set_from number (x ∷ buckets) (suc i) bucket h here = (h.0, set_from (number + 1) buckets i bucket h.1 (subst (λ n. IsBucket n bucket) (omega arith) here))

-- another bucket with this number
pub AreBuckets-set : (buckets : List (List TableRow)) (i : ℕ) (bucket : List TableRow) → AreBuckets 0 buckets → IsBucket i bucket → AreBuckets 0 (set buckets i bucket)
AreBuckets-set buckets i bucket h here = set_from 0 buckets i bucket h (subst (λ n. IsBucket n bucket) (sym (zero-add i)) here)

empty_bucket : (number : ℕ) → IsBucket number []
empty_bucket number = record { belong = tt; apart = finite.len-empty pair_cmp Condition }

-- an empty bucket after all others
pub AreBuckets-push : (number : ℕ) (buckets : List (List TableRow)) → AreBuckets number buckets → AreBuckets number (buckets ++ [] ∷ [])
AreBuckets-push number [] h = (empty_bucket number, tt)
AreBuckets-push number (bucket ∷ buckets) h = (h.0, AreBuckets-push (number + 1) buckets h.1)

table_rows_in-push : (buckets : List (List TableRow)) → table_rows_in (buckets ++ [] ∷ []) ≡ table_rows_in buckets
table_rows_in-push [] = refl
table_rows_in-push (bucket ∷ buckets) = ap (λ es. bucket ++ es) (table_rows_in-push buckets)

pub row_map_of-push : (buckets : List (List TableRow)) → row_map_of (buckets ++ [] ∷ []) ≡ row_map_of buckets
row_map_of-push buckets = ap (λ es. finite.from_entries {R = pair_cmp} es) (table_rows_in-push buckets)

other_bucket : (q key : ℕ × ℕ) (condition : Condition) (o : Option Condition) (b : Bool) → same_pair q key ≡ b → (bucket_number q ≡ bucket_number key → ⊥) → o ≡ cond b (Some condition) o
other_bucket q key condition o true e apart = absurd (apart (ap bucket_number (same_pair-is q key e)))
other_bucket q key condition o false e apart = refl

-- what is put into the bucket of two methods is put into the table
pub row_map_of-set : (buckets : List (List TableRow)) (key : ℕ × ℕ) (condition : Condition) (bucket : List TableRow) → AreBuckets 0 buckets → AreBuckets 0 (set buckets (bucket_number key) bucket) → bucket_number key < length buckets
    → finite.from_entries bucket ≡ finite.insert (finite.from_entries {R = pair_cmp} (get_or buckets (bucket_number key) [])) key condition → row_map_of (set buckets (bucket_number key) bucket) ≡ finite.insert (row_map_of buckets) key condition
row_map_of-set buckets key condition bucket h k below put = finite.same_map pair_cmp_total pair_cmp-IsAntisymmetric _ _ (λ q. get-row_map_of changed q k ∙ by q (bucket_number q == at) refl ∙ sym (finite.get-insert pair_cmp_total (row_map_of buckets) key condition q))
  where
    at : ℕ
    at = bucket_number key

    changed : List (List TableRow)
    changed = set buckets at bucket

    by : (q : ℕ × ℕ) (b : Bool) → (bucket_number q == at) ≡ b → found_in q (get_or changed (bucket_number q) []) ≡ cond (same_pair q key) (Some condition) (finite.get (row_map_of buckets) q)
    by q true e =
        let same : bucket_number q ≡ at = eqb-true (bucket_number q) at e in
        ap (λ n. found_in q (get_or changed n [])) same
        ∙ ap (found_in q) (get_or-set_same buckets at bucket [] below)
        ∙ sym (finite.get-from_entries pair_cmp_total bucket q)
        ∙ ap (λ m. finite.get m q) put
        ∙ finite.get-insert pair_cmp_total (finite.from_entries (get_or buckets at [])) key condition q
        ∙ ap (cond (same_pair q key) (Some condition)) (finite.get-from_entries pair_cmp_total (get_or buckets at []) q ∙ ap (λ n. found_in q (get_or buckets n [])) (sym same) ∙ sym (get-row_map_of buckets q h))
    by q false e =
        let apart : bucket_number q ≡ at → ⊥ = λ same. let t : (bucket_number q == at) ≡ true = eq-eqb (bucket_number q) at same in absurd (cc) in
        ap (found_in q) (get_or-set_other buckets at (bucket_number q) bucket [] apart)
        ∙ sym (get-row_map_of buckets q h)
        ∙ other_bucket q key condition (finite.get (row_map_of buckets) q) (same_pair q key) refl apart

-- a bucket of the code, of which there are enough
entries_at : (buckets : List (Vec Row Global)) (number : ℕ) (bucket : Vec Row Global) → number < length buckets → bucket ≡ get_or buckets number bucket → get_or (buckets_of buckets) number [] ≡ table_rows_of bucket.items
entries_at buckets number bucket below at = get_or-map (λ (b : Vec Row Global). table_rows_of b.items) buckets number bucket [] below ∙ ap (λ (b : Vec Row Global). table_rows_of b.items) (sym at)

get-at : (buckets : List (Vec Row Global)) (first second number : ℕ) → AreBuckets 0 (buckets_of buckets) → number ≡ bucket_number (first, second) → finite.get (row_map_of (buckets_of buckets)) (first, second) ≡ found_in (first, second) (get_or (buckets_of buckets) number [])
get-at buckets first second number h is = get-row_map_of (buckets_of buckets) (first, second) h ∙ ap (λ n. found_in (first, second) (get_or (buckets_of buckets) n [])) (sym is)

pub row_of-found : (buckets : List (Vec Row Global)) (first second number : ℕ) (bucket : Vec Row Global) (i : ℕ) (d : Row) → AreBuckets 0 (buckets_of buckets) → number ≡ bucket_number (first, second) → number < length buckets → bucket ≡ get_or buckets number bucket
    → position_from (is_row_of first second) 0 bucket.items ≡ Some i → row_of (row_map_of (buckets_of buckets)) first second ≡ condition_of (get_or bucket.items i d).cond
row_of-found buckets first second number bucket i d h is below at e = ap row_or_false (get-at buckets first second number h is ∙ ap (found_in (first, second)) (entries_at buckets number bucket below at) ∙ (found_at first second bucket.items i e).found d)

pub row_of-missed : (buckets : List (Vec Row Global)) (first second number : ℕ) (bucket : Vec Row Global) → AreBuckets 0 (buckets_of buckets) → number ≡ bucket_number (first, second) → number < length buckets → bucket ≡ get_or buckets number bucket
    → position_from (is_row_of first second) 0 bucket.items ≡ None → row_of (row_map_of (buckets_of buckets)) first second ≡ False
row_of-missed buckets first second number bucket h is below at e = ap row_or_false (get-at buckets first second number h is ∙ ap (found_in (first, second)) (entries_at buckets number bucket below at) ∙ missed_at first second bucket.items e)

pub row_of-past : (buckets : List (Vec Row Global)) (first second number : ℕ) → AreBuckets 0 (buckets_of buckets) → number ≡ bucket_number (first, second) → length buckets ≤ number → row_of (row_map_of (buckets_of buckets)) first second ≡ False
row_of-past buckets first second number h is past = ap row_or_false (get-at buckets first second number h is ∙ ap (found_in (first, second)) (get_or_past (buckets_of buckets) number [] beyond))
  where
    beyond : length (buckets_of buckets) ≤ number
    beyond = let same : length (buckets_of buckets) ≡ length buckets = length-map buckets _ in omega arith

-- a row is put into its bucket
pub put_there : (buckets : List (Vec Row Global)) (number : ℕ) (row : Row) (old new : Vec Row Global) → AreBuckets 0 (buckets_of buckets) → number ≡ bucket_number (row.first, row.second) → number < length buckets → old ≡ get_or buckets number old
    → IsRowPut old.items row new.items → AreBuckets 0 (buckets_of (set buckets number new)) × (row_map_of (buckets_of (set buckets number new)) ≡ finite.insert (row_map_of (buckets_of buckets)) (row.first, row.second) (condition_of row.cond))
put_there buckets number row old new h is below at put = (subst (AreBuckets 0) (sym changed) kept, ap row_map_of changed ∙ same)
  where
    entries : List (List TableRow)
    entries = buckets_of buckets

    changed : buckets_of (set buckets number new) ≡ set entries number (table_rows_of new.items)
    changed = map-set (λ (b : Vec Row Global). table_rows_of b.items) buckets number new

    here : get_or entries number [] ≡ table_rows_of old.items
    here = entries_at buckets number old below at

    within : number < length entries
    within = let same : length (buckets_of buckets) ≡ length buckets = length-map buckets _ in omega arith

    kept : AreBuckets 0 (set entries number (table_rows_of new.items))
    kept = AreBuckets-set entries number (table_rows_of new.items) h (put.bucket number (sym is) (subst (IsBucket number) here (bucket_at entries number h within)))

    same : row_map_of (set entries number (table_rows_of new.items)) ≡ finite.insert (row_map_of entries) (row.first, row.second) (condition_of row.cond)
    same =
        let P : ℕ → Type 0 = λ n. AreBuckets 0 (set entries n (table_rows_of new.items)) → n < length entries → finite.from_entries (table_rows_of new.items) ≡ finite.insert (finite.from_entries {R = pair_cmp} (get_or entries n [])) (row.first, row.second) (condition_of row.cond)
        → row_map_of (set entries n (table_rows_of new.items)) ≡ finite.insert (row_map_of entries) (row.first, row.second) (condition_of row.cond) in
        subst P (sym is) (λ k b p. row_map_of-set entries (row.first, row.second) (condition_of row.cond) (table_rows_of new.items) h k b p) kept within
        (put.rows ∙ ap (λ es. finite.insert (finite.from_entries {R = pair_cmp} es) (row.first, row.second) (condition_of row.cond)) (sym here))

-- a bucket with the same rows changes nothing
pub same_there : (buckets : List (Vec Row Global)) (number : ℕ) (old new : Vec Row Global) → old ≡ get_or buckets number old → new.items ≡ old.items → buckets_of (set buckets number new) ≡ buckets_of buckets
same_there buckets number old new at same = map-set_same (λ (b : Vec Row Global). table_rows_of b.items) buckets number new old (ap table_rows_of same ∙ ap (λ (b : Vec Row Global). table_rows_of b.items) at)

-- whether or not a row was refused, the buckets are in order
pub kept_after : {T E : Type 0} (r : Result T E) (buckets : List (Vec Row Global)) (number : ℕ) (row : Row) (old new : Vec Row Global) → AreBuckets 0 (buckets_of buckets) → number ≡ bucket_number (row.first, row.second) → number < length buckets → old ≡ get_or buckets number old
    → OnOk r (IsRowPut old.items row new.items) → OnErr r (new.items ≡ old.items) → AreBuckets 0 (buckets_of (set buckets number new))
kept_after (Ok t) buckets number row old new h is below at ok err = (put_there buckets number row old new h is below at ok).0
kept_after (Err e) buckets number row old new h is below at ok err = subst (AreBuckets 0) (sym (same_there buckets number old new at err)) h

-- an empty bucket of the code after all others
pub buckets_of-push : (buckets : List (Vec Row Global)) (bucket : Vec Row Global) → bucket.items ≡ [] → buckets_of (buckets ++ bucket ∷ []) ≡ buckets_of buckets ++ [] ∷ []
buckets_of-push buckets bucket e = map-append (λ (b : Vec Row Global). table_rows_of b.items) buckets (bucket ∷ []) ∙ ap (λ items. buckets_of buckets ++ table_rows_of items ∷ []) e
