-- Where the row of two methods stands in a bucket, and what a row put there changes.
use Rattle.std.specs.Prelude.{◌≡◌, ℕ, zero, suc, ◌+◌, ◌<◌, Bool, true, false, cond, List, [], ◌∷◌, ◌++◌, length, Option, Some, None, is_some, refl}
use Rattle.std.proofs.Common.{sym, ◌∙◌, ap, subst, arith, set, get_or, zero-add, length-set, length-append}
use Rattle.std.proofs.lemmas.List.{map-append}
use Rattle.std.specs.List.{position_from}
use Rattle.std.specs.FinMap as finite
use Rattle.gx_base.specs.declared.tables.Row.{Row}
use Rattle.gx_base.specs.Conditions.{Condition, True, False, Eq, Ne, Lt, Le, And, Or, Not, condition_of, is_false}
use Rattle.gx_base.specs.TableRows.{pair_cmp, RowMap}
use Rattle.gx_base.proofs.table_lemmas.TableRowLaws.{pair_cmp_total, pair_cmp-IsAntisymmetric, same_pair, same_pair-is, same_pair-sym, same_pair-parts}
use Rattle.gx_base.specs.RowLists.{is_row_of, table_row_of, table_rows_of, bucket_number, AllBelong, AreApart, IsRowPut}

-- the key of a row is the pair that it is looked for by
same_pair-row : (first second : ℕ) (row : Row) → same_pair (table_row_of row).0 (first, second) ≡ is_row_of first second row
same_pair-row first second row = same_pair-parts (table_row_of row).0 (first, second)

-- the row at a place is the first for its methods
pub record IsFound (first second : ℕ) (rows : List Row) (place : ℕ) : Type 0 where
  pub inside : place < length rows
  pub found : (d : Row) → finite.find pair_cmp (first, second) (table_rows_of rows) ≡ Some (condition_of (get_or rows place d).cond)
  pub replaced : (condition : Condition) (row : Row) → table_row_of row ≡ ((first, second), condition) → (q : ℕ × ℕ) →
      finite.find pair_cmp q (table_rows_of (set rows place row)) ≡ cond (same_pair q (first, second)) (Some condition) (finite.find pair_cmp q (table_rows_of rows))

shadowed : {A : Type 0} (b : Bool) (x y z : A) → cond b x z ≡ cond b x (cond b y z)
shadowed true x y z = refl
shadowed false x y z = refl

found_here : (first second : ℕ) (x : Row) (rows : List Row) → is_row_of first second x ≡ true → IsFound first second (x ∷ rows) 0
found_here first second x rows e =
    let key : (table_row_of x).0 ≡ (first, second) = same_pair-is _ _ (same_pair-row first second x ∙ e) in
    record {
      inside = omega arith;
      found = λ d. ap (λ b. cond b (Some (condition_of x.cond)) (finite.find pair_cmp (first, second) (table_rows_of rows))) (same_pair-sym (first, second) (table_row_of x).0 ∙ same_pair-row first second x ∙ e);
      replaced = λ condition row is q.
          ap (λ (r : (ℕ × ℕ) × Condition). cond (same_pair q r.0) (Some r.1) (finite.find pair_cmp q (table_rows_of rows))) is
          ∙ shadowed (same_pair q (first, second)) (Some condition) (Some (condition_of x.cond)) (finite.find pair_cmp q (table_rows_of rows))
          ∙ ap (λ (r : ℕ × ℕ). cond (same_pair q (first, second)) (Some condition) (cond (same_pair q r) (Some (condition_of x.cond)) (finite.find pair_cmp q (table_rows_of rows)))) (sym key);
    }

swapped : {A : Type 0} (a b : Bool) (x y z : A) → (a ≡ true → b ≡ true → ⊥) → cond a x (cond b y z) ≡ cond b y (cond a x z)
swapped true true x y z apart = absurd (apart refl refl)
swapped true false x y z apart = refl
swapped false b x y z apart = refl

-- no pair is both another row's and the one looked for
other_pair : (first second : ℕ) (x : Row) (q : ℕ × ℕ) → is_row_of first second x ≡ false → same_pair q (table_row_of x).0 ≡ true → same_pair q (first, second) ≡ true → ⊥
other_pair first second x q e a b =
    let t : same_pair (table_row_of x).0 (first, second) ≡ true = subst (λ r. same_pair r (first, second) ≡ true) (same_pair-is q (table_row_of x).0 a) b in
    let f : same_pair (table_row_of x).0 (first, second) ≡ false = same_pair-row first second x ∙ e in
    absurd (cc)

found_later : (first second : ℕ) (x : Row) (rows : List Row) (place : ℕ) → is_row_of first second x ≡ false → IsFound first second rows place → IsFound first second (x ∷ rows) (suc place)
found_later first second x rows place e h = record {
  inside = let lt : place < length rows = h.inside in omega arith;
  found = λ d. ap (λ b. cond b (Some (condition_of x.cond)) (finite.find pair_cmp (first, second) (table_rows_of rows))) (same_pair-sym (first, second) (table_row_of x).0 ∙ same_pair-row first second x ∙ e) ∙ h.found d;
  replaced = λ condition row is q.
      ap (λ o. cond (same_pair q (table_row_of x).0) (Some (condition_of x.cond)) o) (h.replaced condition row is q)
      ∙ swapped (same_pair q (table_row_of x).0) (same_pair q (first, second)) (Some (condition_of x.cond)) (Some condition) (finite.find pair_cmp q (table_rows_of rows)) (other_pair first second x q e);
}

-- a place that a search from a number finds, counted from there
abbrev pub FoundFrom : ℕ → ℕ → ℕ → List Row → ℕ → Type 0
FoundFrom first second k rows i = (place : ℕ) × (i ≡ k + place) × IsFound first second rows place

found_by : (first second : ℕ) (x : Row) (rows : List Row) (k i : ℕ) (b : Bool) → is_row_of first second x ≡ b
    → (position_from (is_row_of first second) (k + 1) rows ≡ Some i → FoundFrom first second (k + 1) rows i)
    → cond b (Some k) (position_from (is_row_of first second) (k + 1) rows) ≡ Some i → FoundFrom first second k (x ∷ rows) i
found_by first second x rows k i true t rest e = (0, let same : k ≡ i = cc in omega arith, found_here first second x rows t)
found_by first second x rows k i false t rest e =
    let later : FoundFrom first second (k + 1) rows i = rest e in
    (suc later.0, let same : i ≡ (k + 1) + later.0 = later.1 in omega arith, found_later first second x rows later.0 t later.2)

found_from : (first second : ℕ) (rows : List Row) (k i : ℕ) → position_from (is_row_of first second) k rows ≡ Some i → FoundFrom first second k rows i
found_from first second [] k i e = absurd (cc)
found_from first second (x ∷ rows) k i e = found_by first second x rows k i (is_row_of first second x) refl (found_from first second rows (k + 1) i) e

pub found_at : (first second : ℕ) (rows : List Row) (i : ℕ) → position_from (is_row_of first second) 0 rows ≡ Some i → IsFound first second rows i
found_at first second rows i e =
    let from : FoundFrom first second 0 rows i = found_from first second rows 0 i e in
    subst (λ place. IsFound first second rows place) (sym (from.1 ∙ zero-add from.0)) from.2

missed_by : (first second : ℕ) (x : Row) (rows : List Row) (k : ℕ) (b : Bool) → is_row_of first second x ≡ b
    → (position_from (is_row_of first second) (k + 1) rows ≡ None → finite.find pair_cmp (first, second) (table_rows_of rows) ≡ None)
    → cond b (Some k) (position_from (is_row_of first second) (k + 1) rows) ≡ None → finite.find pair_cmp (first, second) (table_rows_of (x ∷ rows)) ≡ None
missed_by first second x rows k true t rest e = absurd (cc)
missed_by first second x rows k false t rest e =
    ap (λ b. cond b (Some (condition_of x.cond)) (finite.find pair_cmp (first, second) (table_rows_of rows))) (same_pair-sym (first, second) (table_row_of x).0 ∙ same_pair-row first second x ∙ t)
    ∙ rest e

missed_from : (first second : ℕ) (rows : List Row) (k : ℕ) → position_from (is_row_of first second) k rows ≡ None → finite.find pair_cmp (first, second) (table_rows_of rows) ≡ None
missed_from first second [] k e = refl
missed_from first second (x ∷ rows) k e = missed_by first second x rows k (is_row_of first second x) refl (missed_from first second rows (k + 1)) e

-- what a search misses doesn't stand in the rows
pub missed_at : (first second : ℕ) (rows : List Row) → position_from (is_row_of first second) 0 rows ≡ None → finite.find pair_cmp (first, second) (table_rows_of rows) ≡ None
missed_at first second rows e = missed_from first second rows 0 e

-- the rows of a list as a map
abbrev map_of : List Row → RowMap
map_of rows = finite.from_entries (table_rows_of rows)

get-map_of : (rows : List Row) (q : ℕ × ℕ) → finite.get (map_of rows) q ≡ finite.find pair_cmp q (table_rows_of rows)
get-map_of rows q = finite.get-from_entries pair_cmp_total (table_rows_of rows) q

length-entries : (rows : List Row) → length (table_rows_of rows) ≡ length rows
length-entries [] = refl
length-entries (row ∷ rows) = ap suc (length-entries rows)

AllBelong-set : (number : ℕ) (rows : List Row) (i : ℕ) (row : Row) → bucket_number (table_row_of row).0 ≡ number → AllBelong number (table_rows_of rows) → AllBelong number (table_rows_of (set rows i row))
AllBelong-set number [] i row here h = h
AllBelong-set number (x ∷ rows) zero row here h = (here, h.1)
AllBelong-set number (x ∷ rows) (suc i) row here h = (h.0, AllBelong-set number rows i row here h.1)

AllBelong-push : (number : ℕ) (rows : List Row) (row : Row) → bucket_number (table_row_of row).0 ≡ number → AllBelong number (table_rows_of rows) → AllBelong number (table_rows_of (rows ++ row ∷ []))
AllBelong-push number [] row here h = (here, tt)
AllBelong-push number (x ∷ rows) row here h = (h.0, AllBelong-push number rows row here h.1)

-- a row in the place of the one for the same methods
pub IsRowPut-set : (rows : List Row) (i : ℕ) (row : Row) → position_from (is_row_of row.first row.second) 0 rows ≡ Some i → IsRowPut rows row (set rows i row)
IsRowPut-set rows i row e = record {
  rows = same;
  bucket = λ number here h. record { belong = AllBelong-set number rows i row here h.belong; apart = apart h.apart };
}
  where
    key : ℕ × ℕ
    key = (row.first, row.second)

    here : IsFound row.first row.second rows i
    here = found_at row.first row.second rows i e

    same : map_of (set rows i row) ≡ finite.insert (map_of rows) key (condition_of row.cond)
    same = finite.same_map pair_cmp_total pair_cmp-IsAntisymmetric _ _ (λ q.
        get-map_of (set rows i row) q
        ∙ here.replaced (condition_of row.cond) row refl q
        ∙ sym (finite.get-insert pair_cmp_total (map_of rows) key (condition_of row.cond) q ∙ ap (cond (same_pair q key) (Some (condition_of row.cond))) (get-map_of rows q)))

    apart : AreApart (table_rows_of rows) → AreApart (table_rows_of (set rows i row))
    apart h =
        ap finite.len same
        ∙ finite.len-insert pair_cmp_total (map_of rows) key (condition_of row.cond)
        ∙ ap (λ (o : Option Condition). cond (is_some o) (finite.len (map_of rows)) (finite.len (map_of rows) + 1)) (get-map_of rows key ∙ here.found row)
        ∙ h ∙ length-entries rows ∙ sym (length-entries (set rows i row) ∙ length-set rows i row)

-- a row after all others
pub IsRowPut-push : (rows : List Row) (row : Row) → position_from (is_row_of row.first row.second) 0 rows ≡ None → IsRowPut rows row (rows ++ row ∷ [])
IsRowPut-push rows row e = record {
  rows = same;
  bucket = λ number here h. record { belong = AllBelong-push number rows row here h.belong; apart = apart h.apart };
}
  where
    key : ℕ × ℕ
    key = (row.first, row.second)

    none : finite.find pair_cmp key (table_rows_of rows) ≡ None
    none = missed_at row.first row.second rows e

    same : map_of (rows ++ row ∷ []) ≡ finite.insert (map_of rows) key (condition_of row.cond)
    same = ap (λ es. finite.from_entries {R = pair_cmp} es) (map-append table_row_of rows (row ∷ [])) ∙ finite.from_entries_push pair_cmp_total pair_cmp-IsAntisymmetric (table_rows_of rows) key (condition_of row.cond) none

    apart : AreApart (table_rows_of rows) → AreApart (table_rows_of (rows ++ row ∷ []))
    apart h =
        ap finite.len same
        ∙ finite.len-insert pair_cmp_total (map_of rows) key (condition_of row.cond)
        ∙ ap (λ (o : Option Condition). cond (is_some o) (finite.len (map_of rows)) (finite.len (map_of rows) + 1)) (get-map_of rows key ∙ none)
        ∙ ap (λ n. n + 1) (h ∙ length-entries rows) ∙ sym (length-entries (rows ++ row ∷ []) ∙ length-append rows (row ∷ []))

pub is_false-is : (condition : Condition) → is_false condition ≡ true → condition ≡ False
is_false-is False e = refl
is_false-is True e = absurd (cc)
is_false-is (Eq x y) e = absurd (cc)
is_false-is (Ne x y) e = absurd (cc)
is_false-is (Lt x y) e = absurd (cc)
is_false-is (Le x y) e = absurd (cc)
is_false-is (And x y) e = absurd (cc)
is_false-is (Or x y) e = absurd (cc)
is_false-is (Not x) e = absurd (cc)
