-- Two tables that agree on the rows of each agree on every pair of methods.
use Rattle.std.specs.Prelude.{◌≡◌, ℕ, zero, suc, ◌+◌, ◌<◌, Bool, true, false, cond, List, [], ◌∷◌, ◌++◌, length, Vec, Option, Some, None, refl}
use Rattle.std.proofs.Common.{sym, ◌∙◌, ap, subst, arith, get_or, take}
use Rattle.std.proofs.lemmas.List.{map-append, take_more}
use Rattle.std.specs.declared.alloc.Global.{Global}
use Rattle.std.specs.FinMap as finite
use Rattle.gx_base.specs.declared.tables.Row.{Row}
use Rattle.gx_base.specs.Conditions.{Condition}
use Rattle.gx_base.specs.TableRows.{pair_cmp, RowMap, row_of, row_or_false}
use Rattle.gx_base.proofs.table_lemmas.TableRowLaws.{pair_cmp_total, same_pair, same_pair-is}
use Rattle.gx_base.specs.RowLists.{TableRow, table_row_of, table_rows_of, buckets_of, table_rows_in, row_map_of, AgreeOn}

pub AgreeOn-append : (one other : RowMap) (xs ys : List TableRow) → AgreeOn one other xs → AgreeOn one other ys → AgreeOn one other (xs ++ ys)
AgreeOn-append one other [] ys h k = k
AgreeOn-append one other (x ∷ xs) ys h k = (h.0, AgreeOn-append one other xs ys h.1 k)

pub AgreeOn-parts : (one other : RowMap) (xs ys : List TableRow) → AgreeOn one other (xs ++ ys) → AgreeOn one other xs × AgreeOn one other ys
AgreeOn-parts one other [] ys h = (tt, h)
AgreeOn-parts one other (x ∷ xs) ys h = ((h.0, (AgreeOn-parts one other xs ys h.1).0), (AgreeOn-parts one other xs ys h.1).1)

pub AgreeOn-all : (one other : RowMap) → ((first second : ℕ) → row_of one first second ≡ row_of other first second) → (entries : List TableRow) → AgreeOn one other entries
AgreeOn-all one other same [] = tt
AgreeOn-all one other same (x ∷ entries) = (same x.0.0 x.0.1, AgreeOn-all one other same entries)

agree_at : (one other : RowMap) (q : ℕ × ℕ) (c : Condition) (entries : List TableRow) → AgreeOn one other entries → finite.find pair_cmp q entries ≡ Some c → row_of one q.0 q.1 ≡ row_of other q.0 q.1
agree_at one other q c [] h e = absurd (cc)
agree_at one other q c (x ∷ entries) h e = by (same_pair q x.0) refl (agree_at one other q c entries h.1) e
  where
    by : (b : Bool) → same_pair q x.0 ≡ b → (finite.find pair_cmp q entries ≡ Some c → row_of one q.0 q.1 ≡ row_of other q.0 q.1) → cond b (Some x.1) (finite.find pair_cmp q entries) ≡ Some c → row_of one q.0 q.1 ≡ row_of other q.0 q.1
    by true s rest f = subst (λ p. row_of one p.0 p.1 ≡ row_of other p.0 p.1) (sym (same_pair-is q x.0 s)) h.0
    by false s rest f = rest f

-- agreeing on the rows of both is agreeing
pub agree_by_rows : (xs ys : List (List TableRow)) → AgreeOn (row_map_of xs) (row_map_of ys) (table_rows_in xs) → AgreeOn (row_map_of xs) (row_map_of ys) (table_rows_in ys)
    → (first second : ℕ) → row_of (row_map_of xs) first second ≡ row_of (row_map_of ys) first second
agree_by_rows xs ys h k first second = by (finite.find pair_cmp (first, second) (table_rows_in xs)) (finite.find pair_cmp (first, second) (table_rows_in ys)) refl refl
  where
    by : (o p : Option Condition) → finite.find pair_cmp (first, second) (table_rows_in xs) ≡ o → finite.find pair_cmp (first, second) (table_rows_in ys) ≡ p → row_of (row_map_of xs) first second ≡ row_of (row_map_of ys) first second
    by (Some c) p e f = agree_at (row_map_of xs) (row_map_of ys) (first, second) c (table_rows_in xs) h e
    by None (Some c) e f = agree_at (row_map_of xs) (row_map_of ys) (first, second) c (table_rows_in ys) k f
    by None None e f = ap row_or_false (finite.get-from_entries pair_cmp_total (table_rows_in xs) (first, second) ∙ e ∙ sym f ∙ sym (finite.get-from_entries pair_cmp_total (table_rows_in ys) (first, second)))

-- the row at a place is one of those that the tables agree on
pub agree_here : (one other : RowMap) (rows : List Row) (i : ℕ) (row : Row) → AgreeOn one other (table_rows_of rows) → i < length rows → row ≡ get_or rows i row → row_of one row.first row.second ≡ row_of other row.first row.second
agree_here one other [] i row h below at = absurd (omega arith)
agree_here one other (x ∷ rows) zero row h below at = subst (λ (r : Row). row_of one r.first r.second ≡ row_of other r.first r.second) (sym at) h.0
agree_here one other (x ∷ rows) (suc i) row h below at = agree_here one other rows i row h.1 (omega arith) at

pub agree_more : (one other : RowMap) (rows : List Row) (i : ℕ) (row : Row) → AgreeOn one other (table_rows_of (take i rows)) → i < length rows → row ≡ get_or rows i row → row_of one row.first row.second ≡ row_of other row.first row.second → AgreeOn one other (table_rows_of (take (i + 1) rows))
agree_more one other rows i row h below at same =
    let more : table_rows_of (take (i + 1) rows) ≡ table_rows_of (take i rows) ++ table_row_of row ∷ [] = ap table_rows_of (take_more rows i row below ∙ ap (λ r. take i rows ++ r ∷ []) (sym at)) ∙ map-append table_row_of (take i rows) (row ∷ []) in
    subst (AgreeOn one other) (sym more) (AgreeOn-append one other (table_rows_of (take i rows)) (table_row_of row ∷ []) h (same, tt))

-- and so are the rows of the bucket at a place
pub agree_here_all : (one other : RowMap) (buckets : List (Vec Row Global)) (i : ℕ) (bucket : Vec Row Global) → AgreeOn one other (table_rows_in (buckets_of buckets)) → i < length buckets → bucket ≡ get_or buckets i bucket → AgreeOn one other (table_rows_of bucket.items)
agree_here_all one other [] i bucket h below at = absurd (omega arith)
agree_here_all one other (x ∷ buckets) zero bucket h below at = subst (λ (b : Vec Row Global). AgreeOn one other (table_rows_of b.items)) (sym at) (AgreeOn-parts one other (table_rows_of x.items) (table_rows_in (buckets_of buckets)) h).0
agree_here_all one other (x ∷ buckets) (suc i) bucket h below at = agree_here_all one other buckets i bucket (AgreeOn-parts one other (table_rows_of x.items) (table_rows_in (buckets_of buckets)) h).1 (omega arith) at

AgreeOn-push : (one other : RowMap) (buckets : List (List TableRow)) (bucket : List TableRow) → AgreeOn one other (table_rows_in buckets) → AgreeOn one other bucket → AgreeOn one other (table_rows_in (buckets ++ bucket ∷ []))
AgreeOn-push one other [] bucket h k = AgreeOn-append one other bucket [] k tt
AgreeOn-push one other (x ∷ buckets) bucket h k =
    let parts : AgreeOn one other x × AgreeOn one other (table_rows_in buckets) = AgreeOn-parts one other x (table_rows_in buckets) h in
    AgreeOn-append one other x (table_rows_in (buckets ++ bucket ∷ [])) parts.0 (AgreeOn-push one other buckets bucket parts.1 k)

pub agree_more_all : (one other : RowMap) (buckets : List (Vec Row Global)) (i : ℕ) (bucket : Vec Row Global) → AgreeOn one other (table_rows_in (buckets_of (take i buckets))) → i < length buckets → bucket ≡ get_or buckets i bucket → AgreeOn one other (table_rows_of bucket.items)
    → AgreeOn one other (table_rows_in (buckets_of (take (i + 1) buckets)))
agree_more_all one other buckets i bucket h below at same =
    let more : buckets_of (take (i + 1) buckets) ≡ buckets_of (take i buckets) ++ table_rows_of bucket.items ∷ [] =
    ap buckets_of (take_more buckets i bucket below ∙ ap (λ b. take i buckets ++ b ∷ []) (sym at)) ∙ map-append (λ (b : Vec Row Global). table_rows_of b.items) (take i buckets) (bucket ∷ []) in
    subst (λ es. AgreeOn one other (table_rows_in es)) (sym more) (AgreeOn-push one other (buckets_of (take i buckets)) (table_rows_of bucket.items) h same)
