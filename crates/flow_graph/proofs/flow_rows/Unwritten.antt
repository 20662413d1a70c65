-- The state of a shard before its first write.
use Rattle.std.proofs.Common.{◌≡◌, ℕ, ℤ, pos, Option, Some, None, sym, ◌∙◌, ap}
use Rattle.std.specs.FinMap as map
use Rattle.std.specs.Global.{Box}
use Rattle.gx_base.specs.States.{State, row_cmp, first_or_zero, number_at}
use Rattle.flow_graph.specs.declared.numbers.FlowNumbers.{FlowNumbers}
use Rattle.flow_graph.specs.FlowRows.{flow_rows}
use Rattle.flow_graph.specs.FlowState.{rows_in}
use Rattle.flow_graph.proofs.flow_rows.RowLaws.{flow_rows-empty}
use Rattle.flow_graph.proofs.flow_rows.Writes.{with_rows}

pub no_rows : (numbers : Option (Box FlowNumbers)) → numbers ≡ None → with_rows (flow_rows (rows_in numbers 0) (rows_in numbers 1) (rows_in numbers 2)) ≡ with_rows map.empty
no_rows None e = ap with_rows flow_rows-empty
no_rows (Some n) e = absurd (cc)

pub no_number : (numbers : Option (Box FlowNumbers)) (key : ℕ × ℤ) → numbers ≡ None → pos 0 ≡ number_at (with_rows (flow_rows (rows_in numbers 0) (rows_in numbers 1) (rows_in numbers 2))) key
no_number numbers key e = sym (ap (λ (s : State). number_at s key) (no_rows numbers e) ∙ ap first_or_zero (map.get-empty row_cmp key))
