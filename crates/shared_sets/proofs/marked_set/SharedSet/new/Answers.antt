use Rattle.std.proofs.Common.{ap, ◌∙◌}
use Rattle.shared_sets.specs.SetRows.{set_rows}
use Rattle.shared_sets.proofs.object_rows.SetRowLaws.{with_rows, set_rows-empty}
use Rattle.shared_sets.proofs.marked_set.SharedSet.new.Goals as goal

pub returns : goal.returns
returns c = ap with_rows (ap set_rows c.new.ensures ∙ set_rows-empty)
