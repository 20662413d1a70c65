use Rattle.std.proofs.Common.{w64}
use Rattle.std.proofs.lemmas.Int.{to_z-of_z}
use Rattle.number_rows.specs.NumberRows.{number_rows_of}
use Rattle.number_rows.proofs.CallerLemmas.{rewrote_kept}
use Rattle.shared_sets.proofs.object_rows.CellRowLaws.{wrote_cell, cells_kept}
use Rattle.shared_sets.proofs.numbered_cells.Cells.rewrite.Goals as goal

pub returns-clause-state : goal.returns-clause-state
returns-clause-state c = wrote_cell (number_rows_of c.args.self.now.numbers) (number_rows_of c.rewrite.new.self) c.args.key _ c.args.number _
    (to_z-of_z w64 c.args.key c.ranges.key) (to_z-of_z w64 c.args.number c.ranges.number) c.rewrite.ensures

pub returns-clause-kept : goal.returns-clause-kept
returns-clause-kept c = cells_kept c.args.self.now c.rewrite.new.self (rewrote_kept (number_rows_of c.args.self.now.numbers) (number_rows_of c.rewrite.new.self) _ _ c.rewrite.ensures)
