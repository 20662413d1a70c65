use Rattle.std.proofs.Common.{ap}
use Rattle.shared_sets.proofs.object_rows.SetRowLaws.{with_rows, set_rows-same}
use Rattle.shared_sets.proofs.marked_set.SharedSetSeqType.tidy.Goals as goal

pub returns-clause-state : goal.returns-clause-state
returns-clause-state c = ap with_rows (set_rows-same _ _ c.tidy.ensures.numbers)
