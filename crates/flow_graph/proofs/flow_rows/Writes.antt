-- What reads and writes of one number are in the state of a shard.
use Rattle.std.proofs.Common.{◌≡◌, ℤ, List, sym, ◌∙◌, ap}
use Rattle.std.specs.FinMap as map
use Rattle.gx_base.specs.declared.kinds.Kind.TheVariants.{Flow as flow}
use Rattle.gx_base.specs.Kinds.{kind_number}
use Rattle.gx_base.specs.States.{State, row_cmp, rows_with, number_at, with_number}
use Rattle.number_rows.specs.NumbersAsRows.{number_in}
use Rattle.number_rows.proofs.CallerLemmas.{put_at}
use Rattle.flow_graph.specs.declared.uses.Quantity.{Quantity}
use Rattle.flow_graph.specs.declared.uses.Quantity.TheVariants.{Height, Excess, Flow}
use Rattle.flow_graph.specs.Uses.{sort_of}
use Rattle.flow_graph.specs.FlowRows.{Numbers, flow_rows}
use Rattle.flow_graph.proofs.flow_rows.RowLaws.{flow_rows-height, flow_rows-excess, flow_rows-flow, number-heights, number-excesses, number-flows}

abbrev pub with_rows : map.FinMap row_cmp (List ℤ) → State
with_rows rows = record { kind = kind_number flow; rows = rows }

-- a number that is read
pub read_height : (h e f : Numbers) (q : Quantity) (k kk x y : ℤ) → q ≡ Height → kk ≡ k → y ≡ x → x ≡ number_in h kk → y ≡ number_at (with_rows (flow_rows h e f)) (sort_of q, k)
read_height h e f q k kk x y is ek ey r = ey ∙ r ∙ ap (number_in h) ek ∙ sym (number-heights h e f k) ∙ ap (λ s. number_at (with_rows (flow_rows h e f)) (s, k)) (sym (ap sort_of is))

pub read_excess : (h e f : Numbers) (q : Quantity) (k kk x y : ℤ) → q ≡ Excess → kk ≡ k → y ≡ x → x ≡ number_in e kk → y ≡ number_at (with_rows (flow_rows h e f)) (sort_of q, k)
read_excess h e f q k kk x y is ek ey r = ey ∙ r ∙ ap (number_in e) ek ∙ sym (number-excesses h e f k) ∙ ap (λ s. number_at (with_rows (flow_rows h e f)) (s, k)) (sym (ap sort_of is))

pub read_flow : (h e f : Numbers) (q : Quantity) (k kk x y : ℤ) → q ≡ Flow → kk ≡ k → y ≡ x → x ≡ number_in f kk → y ≡ number_at (with_rows (flow_rows h e f)) (sort_of q, k)
read_flow h e f q k kk x y is ek ey r = ey ∙ r ∙ ap (number_in f) ek ∙ sym (number-flows h e f k) ∙ ap (λ s. number_at (with_rows (flow_rows h e f)) (s, k)) (sym (ap sort_of is))

-- a number that is written
pub wrote_height : (h e f n : Numbers) (q : Quantity) (k kk x xx : ℤ) → q ≡ Height → kk ≡ k → xx ≡ x → n ≡ map.insert h kk xx → with_rows (flow_rows n e f) ≡ with_number (with_rows (flow_rows h e f)) (sort_of q, k) x
wrote_height h e f n q k kk x xx is ek ex w =
    ap (λ m. with_rows (flow_rows m e f)) (put_at h n k kk x xx ek ex w)
    ∙ ap with_rows (flow_rows-height h e f k x ∙ ap (λ s. rows_with (flow_rows h e f) (s, k) x) (sym (ap sort_of is)))

pub wrote_excess : (h e f n : Numbers) (q : Quantity) (k kk x xx : ℤ) → q ≡ Excess → kk ≡ k → xx ≡ x → n ≡ map.insert e kk xx → with_rows (flow_rows h n f) ≡ with_number (with_rows (flow_rows h e f)) (sort_of q, k) x
wrote_excess h e f n q k kk x xx is ek ex w =
    ap (λ m. with_rows (flow_rows h m f)) (put_at e n k kk x xx ek ex w)
    ∙ ap with_rows (flow_rows-excess h e f k x ∙ ap (λ s. rows_with (flow_rows h e f) (s, k) x) (sym (ap sort_of is)))

pub wrote_flow : (h e f n : Numbers) (q : Quantity) (k kk x xx : ℤ) → q ≡ Flow → kk ≡ k → xx ≡ x → n ≡ map.insert f kk xx → with_rows (flow_rows h e n) ≡ with_number (with_rows (flow_rows h e f)) (sort_of q, k) x
wrote_flow h e f n q k kk x xx is ek ex w =
    ap (λ m. with_rows (flow_rows h e m)) (put_at f n k kk x xx ek ex w)
    ∙ ap with_rows (flow_rows-flow h e f k x ∙ ap (λ s. rows_with (flow_rows h e f) (s, k) x) (sym (ap sort_of is)))
