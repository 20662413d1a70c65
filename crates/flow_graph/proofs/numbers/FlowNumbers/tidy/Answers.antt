use Rattle.std.proofs.Common.{ap}
use Rattle.flow_graph.proofs.flow_rows.RowLaws.{flow_rows-same}
use Rattle.flow_graph.proofs.flow_rows.Writes.{with_rows}
use Rattle.flow_graph.proofs.numbers.FlowNumbers.tidy.Goals as goal

pub returns-clause-state : goal.returns-clause-state
returns-clause-state c = ap with_rows (flow_rows-same _ _ _ _ _ _ c.tidy.ensures.numbers c.tidy-2.ensures.numbers c.tidy-3.ensures.numbers)
