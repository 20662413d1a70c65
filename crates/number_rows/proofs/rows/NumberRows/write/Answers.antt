use Rattle.std.proofs.Common.{to_z, of_z, w64, arith, ap, is_some}
use Rattle.std.proofs.lemmas.Int.{to_z-of_z}
use Rattle.number_rows.proofs.entries.Lookups.{from_entries-update_at, there}
use Rattle.number_rows.proofs.entries.DeadRows.{dead_after}
use Rattle.number_rows.proofs.rows.NumberRows.write.Goals as goal

pub returns-clause-ok : goal.returns-clause-ok
returns-clause-ok c =
    from_entries-update_at c.args.self.now.numbers.entries c.insert.new.self.entries c.args.key (to_z w64 (of_z w64 c.args.key)) c.args.number (to_z w64 (of_z w64 c.args.number))
    (to_z-of_z w64 c.args.key c.ranges.key) (to_z-of_z w64 c.args.number c.ranges.number) c.in_ok-was.ensures.updates.0

pub returns-in_err-was-clause-succeeds : goal.returns-in_err-was-clause-succeeds
returns-in_err-was-clause-succeeds c = λ t.
    let e = there c.args.self.now.numbers.entries c.args.key (to_z w64 (of_z w64 c.args.key)) (to_z-of_z w64 c.args.key c.ranges.key) in
    let a = ap is_some c.in_err-was.ensures.absent in
    absurd (cc)

pub overflow_sub-self : goal.overflow_sub-self
overflow_sub-self c =
    let e = dead_after c.args.self.now.numbers.entries c.insert.new.self.entries (to_z w64 (of_z w64 c.args.key)) (to_z w64 (of_z w64 c.args.number)) _ c.args.self.now.dead c.dead_for.result c.dead_for-2.result
    c.in_ok-was.ensures.old c.in_ok-was.ensures.entries c.args.self.now.counted c.dead_for.ensures c.dead_for-2.ensures in
    omega (arith, e)

pub invariant_of-self-2-clause-counted : goal.invariant_of-self-2-clause-counted
invariant_of-self-2-clause-counted c =
    let e = dead_after c.args.self.now.numbers.entries c.insert.new.self.entries (to_z w64 (of_z w64 c.args.key)) (to_z w64 (of_z w64 c.args.number)) _ c.args.self.now.dead c.dead_for.result c.dead_for-2.result
    c.in_ok-was.ensures.old c.in_ok-was.ensures.entries c.args.self.now.counted c.dead_for.ensures c.dead_for-2.ensures in
    omega (arith, e)
