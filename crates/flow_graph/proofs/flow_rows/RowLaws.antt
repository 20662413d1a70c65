-- What stands in the rows of a flow shard's state, and what a write does to them.
use Rattle.std.specs.Prelude.{◌≡◌, ℕ, ℤ}
use Rattle.std.proofs.Common.{◌∙◌, ap}
use Rattle.std.specs.FinMap as map
use Rattle.gx_base.specs.FlowKind.{height_sort, excess_sort, flow_sort}
use Rattle.gx_base.specs.States.{row_cmp, rows_with, first_or_zero}
use Rattle.number_rows.specs.NumbersAsRows.{number_in, rows_onto}
use Rattle.number_rows.proofs.CallerLemmas.{IsFree, IsFree-rows_onto, get-rows_onto-other, rows_onto-insert, rows_onto-rows_with, number-rows_onto, rows_onto-same, rows_onto-empty}
use Rattle.flow_graph.specs.FlowRows.{Numbers, flow_rows}

free-empty : (i : ℕ) → IsFree map.empty i
free-empty i k = map.get-empty row_cmp (i, k)

free-heights : (h : Numbers) → IsFree (rows_onto map.empty height_sort h) excess_sort
free-heights h = IsFree-rows_onto map.empty height_sort h excess_sort (λ e. absurd (cc)) (free-empty excess_sort)

free-excesses : (h e : Numbers) → IsFree (rows_onto (rows_onto map.empty height_sort h) excess_sort e) flow_sort
free-excesses h e = IsFree-rows_onto (rows_onto map.empty height_sort h) excess_sort e flow_sort (λ z. absurd (cc)) (IsFree-rows_onto map.empty height_sort h flow_sort (λ z. absurd (cc)) (free-empty flow_sort))

pub number-heights : (h e f : Numbers) (k : ℤ) → first_or_zero (map.get (flow_rows h e f) (height_sort, k)) ≡ number_in h k
unfolding flow_rows
number-heights h e f k =
    ap first_or_zero (get-rows_onto-other (rows_onto (rows_onto map.empty height_sort h) excess_sort e) flow_sort f height_sort k (λ z. absurd (cc)) ∙ get-rows_onto-other (rows_onto map.empty height_sort h) excess_sort e height_sort k (λ z. absurd (cc)))
    ∙ number-rows_onto map.empty height_sort h k (free-empty height_sort)

pub number-excesses : (h e f : Numbers) (k : ℤ) → first_or_zero (map.get (flow_rows h e f) (excess_sort, k)) ≡ number_in e k
unfolding flow_rows
number-excesses h e f k =
    ap first_or_zero (get-rows_onto-other (rows_onto (rows_onto map.empty height_sort h) excess_sort e) flow_sort f excess_sort k (λ z. absurd (cc)))
    ∙ number-rows_onto (rows_onto map.empty height_sort h) excess_sort e k (free-heights h)

pub number-flows : (h e f : Numbers) (k : ℤ) → first_or_zero (map.get (flow_rows h e f) (flow_sort, k)) ≡ number_in f k
unfolding flow_rows
number-flows h e f k = number-rows_onto (rows_onto (rows_onto map.empty height_sort h) excess_sort e) flow_sort f k (free-excesses h e)

-- a number that is written is a row that is written
pub flow_rows-height : (h e f : Numbers) (k x : ℤ) → flow_rows (map.insert h k x) e f ≡ rows_with (flow_rows h e f) (height_sort, k) x
unfolding flow_rows
flow_rows-height h e f k x =
    ap (λ m. rows_onto (rows_onto m excess_sort e) flow_sort f) (rows_onto-insert map.empty height_sort h k x)
    ∙ ap (λ m. rows_onto m flow_sort f) (rows_onto-rows_with (rows_onto map.empty height_sort h) excess_sort e height_sort k x (λ z. absurd (cc)))
    ∙ rows_onto-rows_with (rows_onto (rows_onto map.empty height_sort h) excess_sort e) flow_sort f height_sort k x (λ z. absurd (cc))

pub flow_rows-excess : (h e f : Numbers) (k x : ℤ) → flow_rows h (map.insert e k x) f ≡ rows_with (flow_rows h e f) (excess_sort, k) x
unfolding flow_rows
flow_rows-excess h e f k x =
    ap (λ m. rows_onto m flow_sort f) (rows_onto-insert (rows_onto map.empty height_sort h) excess_sort e k x)
    ∙ rows_onto-rows_with (rows_onto (rows_onto map.empty height_sort h) excess_sort e) flow_sort f excess_sort k x (λ z. absurd (cc))

pub flow_rows-flow : (h e f : Numbers) (k x : ℤ) → flow_rows h e (map.insert f k x) ≡ rows_with (flow_rows h e f) (flow_sort, k) x
unfolding flow_rows
flow_rows-flow h e f k x = rows_onto-insert (rows_onto (rows_onto map.empty height_sort h) excess_sort e) flow_sort f k x

pub flow_rows-empty : flow_rows map.empty map.empty map.empty ≡ map.empty
unfolding flow_rows
flow_rows-empty = rows_onto-empty _ flow_sort ∙ rows_onto-empty _ excess_sort ∙ rows_onto-empty map.empty height_sort

-- the same numbers are the same rows
pub flow_rows-same : (h e f h' e' f' : Numbers) → ((k : ℤ) → number_in h' k ≡ number_in h k) → ((k : ℤ) → number_in e' k ≡ number_in e k) → ((k : ℤ) → number_in f' k ≡ number_in f k)
    → flow_rows h' e' f' ≡ flow_rows h e f
unfolding flow_rows
flow_rows-same h e f h' e' f' a b c =
    ap (λ m. rows_onto (rows_onto m excess_sort e') flow_sort f') (rows_onto-same map.empty height_sort h' h (free-empty height_sort) a)
    ∙ ap (λ m. rows_onto m flow_sort f') (rows_onto-same (rows_onto map.empty height_sort h) excess_sort e' e (free-heights h) b)
    ∙ rows_onto-same (rows_onto (rows_onto map.empty height_sort h) excess_sort e) flow_sort f' f (free-excesses h e) c
