-- The list of pairs that have a row, beside the rows.
use Rattle.std.proofs.Common.{◌≡◌, ℕ, Bool, true, false, cond, ◌||◌, List, [], ◌∷◌, ◌++◌, Option, None, Some, is_some, refl, sym, ap, ◌∙◌}
use Rattle.std.specs.FinMap as map
use Rattle.std.proofs.lemmas.List.Folds.{list_any-append}
use Rattle.gx_base.specs.Conditions.{Condition}
use Rattle.gx_base.specs.TableRows.{RowMap, pair_cmp}
use Rattle.gx_base.proofs.CallerLemmas.{pair_cmp_total, same_pair, same_pair-parts, same_pair-sym}
use Rattle.cond_text.specs.Pairs.{is_pair, has_pair}

-- no pair is placed where there are no rows
pub none_placed : (pairs : List (ℕ × ℕ)) (rows : RowMap) → pairs ≡ [] → rows ≡ map.empty → (first second : ℕ) → has_pair pairs first second ≡ is_some (map.get rows (first, second))
none_placed pairs rows no_pairs no_rows first second =
    ap (λ (ps : List (ℕ × ℕ)). has_pair ps first second) no_pairs
    ∙ sym (ap (λ (o : Option Condition). is_some o) (map.get-empty pair_cmp (first, second)))
    ∙ ap (λ (r : RowMap). is_some (map.get r (first, second))) (sym no_rows)

some_by : (b : Bool) (condition : Condition) (o : Option Condition) → is_some (cond b (Some condition) o) ≡ (is_some o || (b || false))
some_by true condition None = refl
some_by true condition (Some x) = refl
some_by false condition None = refl
some_by false condition (Some x) = refl

-- a pair that is put in both stands in both
pub one_placed : (pairs more : List (ℕ × ℕ)) (rows new : RowMap) (i j : ℕ) (condition : Condition)
    → ((first second : ℕ) → has_pair pairs first second ≡ is_some (map.get rows (first, second)))
    → more ≡ pairs ++ (i, j) ∷ [] → new ≡ map.insert rows (i, j) condition
    → (first second : ℕ) → has_pair more first second ≡ is_some (map.get new (first, second))
one_placed pairs more rows new i j condition tied is_more is_new first second =
    let same : same_pair (first, second) (i, j) ≡ is_pair first second (i, j) = same_pair-sym (first, second) (i, j) ∙ same_pair-parts (i, j) (first, second) in
    ap (λ (ps : List (ℕ × ℕ)). has_pair ps first second) is_more
    ∙ list_any-append (is_pair first second) pairs ((i, j) ∷ [])
    ∙ ap (λ b. b || (is_pair first second (i, j) || false)) (tied first second)
    ∙ sym (some_by (is_pair first second (i, j)) condition (map.get rows (first, second)))
    ∙ ap (λ b. is_some (cond b (Some condition) (map.get rows (first, second)))) (sym same)
    ∙ sym (ap (λ (o : Option Condition). is_some o) (map.get-insert pair_cmp_total rows (i, j) condition (first, second)))
    ∙ ap (λ (r : RowMap). is_some (map.get r (first, second))) (sym is_new)
