use Rattle.std.proofs.Common.{w64, rules, FitsSigned}
use Rattle.std.proofs.lemmas.Int.{to_z-of_z}
use Rattle.std.proofs.lemmas.Result.{on_ok_weaker}
use Rattle.number_rows.specs.NumberRows.{number_rows_of}
use Rattle.number_rows.proofs.CallerLemmas.{kept_after_write, wrote_there}
use Rattle.shared_sets.proofs.object_rows.SetRowLaws.{wrote_mark, set_kept}
use Rattle.shared_sets.proofs.marked_set.SharedSet.mark.Goals as goal

pub returns-clause-ok : goal.returns-clause-ok
returns-clause-ok c =
    let f : FitsSigned w64 c.mark_for.result = search rules in
    on_ok_weaker c.write.result (wrote_mark (number_rows_of c.args.self.now.marks) (number_rows_of c.write.new.self) c.args.x _ c.mark_for.result _ c.args.present c.mark_for.ensures
    (to_z-of_z w64 c.args.x c.ranges.x) (to_z-of_z w64 c.mark_for.result f)) c.write.ensures.ok

pub returns-clause-room : goal.returns-clause-room
returns-clause-room c = on_ok_weaker c.write.result (wrote_there (number_rows_of c.args.self.now.marks) (number_rows_of c.write.new.self) c.args.x _ _ (to_z-of_z w64 c.args.x c.ranges.x)) c.write.ensures.ok

pub returns-clause-kept : goal.returns-clause-kept
returns-clause-kept c = set_kept c.args.self.now c.write.new.self (kept_after_write c.write.result (number_rows_of c.args.self.now.marks) (number_rows_of c.write.new.self) _ _ c.write.ensures.ok c.write.ensures.err)
