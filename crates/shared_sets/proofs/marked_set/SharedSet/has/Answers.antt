use Rattle.std.proofs.Common.{w64, rules, FitsSigned}
use Rattle.std.proofs.lemmas.Int.{to_z-of_z}
use Rattle.number_rows.specs.NumberRows.{number_rows_of}
use Rattle.shared_sets.proofs.object_rows.SetRowLaws.{read_mark}
use Rattle.shared_sets.proofs.marked_set.SharedSet.has.Goals as goal

pub returns : goal.returns
returns c =
    let f : FitsSigned w64 c.value.result = search rules in
    read_mark (number_rows_of c.args.self.now.marks) c.args.x _ c.value.result _ c.is_marked.result c.is_marked.ensures
    (to_z-of_z w64 c.args.x c.ranges.x) (to_z-of_z w64 c.value.result f) c.value.ensures
