use Rattle.std.proofs.Common.{w64, rules, FitsSigned}
use Rattle.std.proofs.lemmas.Int.{to_z-of_z}
use Rattle.number_rows.specs.NumberRows.{number_rows_of}
use Rattle.shared_sets.proofs.object_rows.CellRowLaws.{read_cell}
use Rattle.shared_sets.proofs.numbered_cells.Cells.value.Goals as goal

pub returns : goal.returns
returns c =
    let f : FitsSigned w64 c.value.result = search rules in
    read_cell (number_rows_of c.args.self.now.numbers) c.args.key _ c.value.result _ (to_z-of_z w64 c.args.key c.ranges.key) (to_z-of_z w64 c.value.result f) c.value.ensures
