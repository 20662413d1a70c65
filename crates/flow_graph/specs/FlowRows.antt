-- The rows of a flow shard's state: heights, excesses and flows, each in a sort of its own.
use Rattle.std.specs.Prelude.{ℤ, List, FitsSigned}
use Rattle.std.specs.Int.{w64}
use Rattle.std.proofs.Common.{sym, subst}
use Rattle.std.specs.Ordering.{int_cmp}
use Rattle.std.specs.FinMap as map
use Rattle.gx_base.specs.States.{row_cmp, IsNumberRow}
use Rattle.gx_base.specs.FlowKind.{height_sort, excess_sort, flow_sort}
use Rattle.number_rows.specs.NumbersAsRows.{number_in, rows_onto}
use Rattle.number_rows.proofs.CallerLemmas.{HoldNumbers, HoldNumbers-rows_onto}

-- numbers by key
abbrev pub Numbers : Type 0
Numbers = map.FinMap int_cmp ℤ

-- the rows of a state with these heights, excesses and flows
unfoldable pub flow_rows : Numbers → Numbers → Numbers → map.FinMap row_cmp (List ℤ)
flow_rows heights excesses flows = rows_onto (rows_onto (rows_onto map.empty height_sort heights) excess_sort excesses) flow_sort flows

-- each row holds one number of 64 bits. It stands here since what the object says of every value rests on it, and that
-- takes nothing from this crate's proofs
pub flow_rows-HoldNumbers : (h e f : Numbers) → ((k : ℤ) → FitsSigned w64 (number_in h k)) → ((k : ℤ) → FitsSigned w64 (number_in e k)) → ((k : ℤ) → FitsSigned w64 (number_in f k)) → HoldNumbers (flow_rows h e f)
unfolding flow_rows
flow_rows-HoldNumbers h e f a b c =
    HoldNumbers-rows_onto _ flow_sort f (HoldNumbers-rows_onto _ excess_sort e (HoldNumbers-rows_onto map.empty height_sort h (λ key. subst IsNumberRow (sym (map.get-empty row_cmp key)) tt) a) b) c
