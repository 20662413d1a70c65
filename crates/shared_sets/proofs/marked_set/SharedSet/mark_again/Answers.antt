use Rattle.std.proofs.Common.{w64, rules, FitsSigned}
use Rattle.std.proofs.lemmas.Int.{to_z-of_z}
use Rattle.number_rows.specs.NumberRows.{number_rows_of}
use Rattle.number_rows.proofs.CallerLemmas.{rewrote_kept}
use Rattle.shared_sets.proofs.object_rows.SetRowLaws.{wrote_mark, set_kept}
use Rattle.shared_sets.proofs.marked_set.SharedSet.mark_again.Goals as goal

pub returns-clause-state : goal.returns-clause-state
returns-clause-state c =
    let f : FitsSigned w64 c.mark_for.result = search rules in
    wrote_mark (number_rows_of c.args.self.now.marks) (number_rows_of c.rewrite.new.self) c.args.x _ c.mark_for.result _ c.args.present c.mark_for.ensures
    (to_z-of_z w64 c.args.x c.ranges.x) (to_z-of_z w64 c.mark_for.result f) c.rewrite.ensures

pub returns-clause-kept : goal.returns-clause-kept
returns-clause-kept c = set_kept c.args.self.now c.rewrite.new.self (rewrote_kept (number_rows_of c.args.self.now.marks) (number_rows_of c.rewrite.new.self) _ _ c.rewrite.ensures)
