use Rattle.std.proofs.Common.{ap, ◌∙◌}
use Rattle.shared_sets.proofs.object_rows.CellRowLaws.{cells_with, cells_with-empty}
use Rattle.shared_sets.proofs.numbered_cells.Cells.new.Goals as goal

pub returns : goal.returns
returns c = ap cells_with c.new.ensures ∙ cells_with-empty
