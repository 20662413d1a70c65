use Rattle.std.proofs.Common.{w64}
use Rattle.std.proofs.lemmas.Int.{to_z-of_z}
use Rattle.std.proofs.lemmas.Result.{on_ok_weaker}
use Rattle.number_rows.specs.NumberRows.{number_rows_of}
use Rattle.number_rows.proofs.CallerLemmas.{kept_after_write, wrote_there}
use Rattle.shared_sets.proofs.object_rows.CellRowLaws.{wrote_cell, cells_kept}
use Rattle.shared_sets.proofs.numbered_cells.Cells.write.Goals as goal

pub returns-clause-ok : goal.returns-clause-ok
returns-clause-ok c = on_ok_weaker c.write.result (wrote_cell (number_rows_of c.args.self.now.numbers) (number_rows_of c.write.new.self) c.args.key _ c.args.number _
    (to_z-of_z w64 c.args.key c.ranges.key) (to_z-of_z w64 c.args.number c.ranges.number)) c.write.ensures.ok

pub returns-clause-room : goal.returns-clause-room
returns-clause-room c = on_ok_weaker c.write.result (wrote_there (number_rows_of c.args.self.now.numbers) (number_rows_of c.write.new.self) c.args.key _ _ (to_z-of_z w64 c.args.key c.ranges.key)) c.write.ensures.ok

pub returns-clause-kept : goal.returns-clause-kept
returns-clause-kept c = cells_kept c.args.self.now c.write.new.self (kept_after_write c.write.result (number_rows_of c.args.self.now.numbers) (number_rows_of c.write.new.self) _ _ c.write.ensures.ok c.write.ensures.err)
