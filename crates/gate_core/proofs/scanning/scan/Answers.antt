use Rattle.std.proofs.Common.{Some, sym, subst}
use Rattle.gx_base.specs.declared.calls.Seen.{Seen}
use Rattle.gx_base.specs.TableRows.{row_of}
use Rattle.gate_core.specs.Replays.{IsFirstFailing}
use Rattle.gate_core.proofs.scans.ScanLemmas.{found, all_passed}
use Rattle.gate_core.proofs.scanning.scan.Goals as goal

pub returns-then-not-may_stand : goal.returns-then-not-may_stand
returns-then-not-may_stand c = λ s w.
    subst (λ (seen : Seen). IsFirstFailing (row_of c.args.table.now) s c.args.live.now c.args.asked.now (Some (c.loop-place.place, seen))) (sym c.seen_by.ensures)
    (found (row_of c.args.table.now) c.requires c.args.asked.now s c.args.live.now c.loop-place.place _ c.loop-place-test.true c.loop-place.invariant (sym c.if-not-may_stand.ensures) w)

pub returns : goal.returns
returns c = λ s w. all_passed (row_of c.args.table.now) c.requires c.args.asked.now s c.args.live.now c.loop-place.place c.loop-place-test.false c.loop-place.invariant w
