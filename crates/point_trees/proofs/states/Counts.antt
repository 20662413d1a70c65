-- How many points there are.
use Rattle.std.specs.Prelude.{◌≡◌, ℕ, zero, suc, ◌+◌, ◌-◌, ◌≤◌, ℤ, Bool, true, false, cond, Option, Some, None, List, [], ◌∷◌, length, is_some, refl}
use Rattle.std.proofs.Common.{sym, ◌∙◌, ap, arith}
use Rattle.std.specs.FinMap as map
use Rattle.gx_base.specs.States.{State, row_cmp, rows_put, row_at, with_row}
use Rattle.gx_base.proofs.CallerLemmas.{row_cmp_total}
use Rattle.point_trees.specs.Trees.{Nodes}
use Rattle.point_trees.specs.TreeStates.{row_of_node, tree_rows, count_of}
use Rattle.point_trees.proofs.states.Basics.{some_none}

insert_by : (b : Bool) (n : ℕ) → cond b n (n + 1) ≤ n + 1
insert_by true n = omega arith
insert_by false n = omega arith

remove_by : (b : Bool) (n : ℕ) → cond b (n - 1) n ≤ n
remove_by true n = omega arith
remove_by false n = omega arith

-- a row more, or none
put-more : (m : map.FinMap row_cmp (List ℤ)) (key : ℕ × ℤ) (row : Option (List ℤ)) → map.len (rows_put m key row) ≤ map.len m + 1
put-more m key None = let e = map.len-remove row_cmp_total m key in let h = remove_by (map.contains_key m key) (map.len m) in omega arith
put-more m key (Some xs) = let e = map.len-insert row_cmp_total m key xs in let h = insert_by (map.contains_key m key) (map.len m) in omega arith

-- there are no more points than ids
pub count-most : (look : Nodes) (es : List (ℤ × ℕ)) → map.len (tree_rows look es) ≤ length es
count-most look [] = let e = map.len-empty row_cmp (List ℤ) in omega arith
count-most look (e ∷ es) =
    let h : map.len (tree_rows look es) ≤ length es = count-most look es in
    let k = put-more (tree_rows look es) (0, e.0) (row_of_node e.0 (look e.1)) in
    omega arith

-- a point more
pub count-more : (s : State) (key : ℕ × ℤ) (xs : List ℤ) → row_at s key ≡ None → count_of (with_row s key (Some xs)) ≡ count_of s + 1
count-more s key xs e = map.len-insert row_cmp_total s.rows key xs ∙ ap (λ (o : Option (List ℤ)). cond (is_some o) (map.len s.rows) (map.len s.rows + 1)) e

-- where there is a point, there is one at least
pub count-some : (s : State) (key : ℕ × ℤ) (xs : List ℤ) → row_at s key ≡ Some xs → 1 ≤ count_of s
count-some s key xs e = by_len (map.len s.rows) refl
  where
    by_len : (n : ℕ) → map.len s.rows ≡ n → 1 ≤ map.len s.rows
    by_len zero h = absurd (some_none xs (sym (map.get-empty row_cmp key) ∙ ap (λ m. map.get m key) (sym (map.empty_of_len s.rows h)) ∙ e))
    by_len (suc n) h = omega arith

-- a point less
pub count-less : (s : State) (key : ℕ × ℤ) (xs : List ℤ) → row_at s key ≡ Some xs → count_of (with_row s key None) ≡ count_of s - 1
count-less s key xs e = map.len-remove row_cmp_total s.rows key ∙ ap (λ (o : Option (List ℤ)). cond (is_some o) (map.len s.rows - 1) (map.len s.rows)) e
