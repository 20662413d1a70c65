use Rattle.shared_sets.proofs.object_rows.CellRowLaws.{cells_with-same}
use Rattle.shared_sets.proofs.numbered_cells.CellsSeqType.tidy.Goals as goal

pub returns-clause-state : goal.returns-clause-state
returns-clause-state c = cells_with-same _ _ c.tidy.ensures.numbers
