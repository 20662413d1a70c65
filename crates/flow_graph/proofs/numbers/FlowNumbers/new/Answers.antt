use Rattle.std.proofs.Common.{ap, ◌∙◌}
use Rattle.std.specs.FinMap as map
use Rattle.number_rows.specs.NumberRows.{number_rows_of}
use Rattle.flow_graph.specs.FlowRows.{flow_rows}
use Rattle.flow_graph.proofs.flow_rows.RowLaws.{flow_rows-empty}
use Rattle.flow_graph.proofs.flow_rows.Writes.{with_rows}
use Rattle.flow_graph.proofs.numbers.FlowNumbers.new.Goals as goal

pub returns : goal.returns
returns c = ap with_rows (
    ap (λ h. flow_rows h (number_rows_of c.new-2.result) (number_rows_of c.new-3.result)) c.new.ensures
    ∙ ap (λ e. flow_rows map.empty e (number_rows_of c.new-3.result)) c.new-2.ensures ∙ ap (λ f. flow_rows map.empty map.empty f) c.new-3.ensures ∙ flow_rows-empty)
