use Rattle.std.proofs.Common.{w64}
use Rattle.std.proofs.lemmas.Int.{to_z-of_z}
use Rattle.std.proofs.lemmas.Result.{on_ok_weaker}
use Rattle.number_rows.specs.NumberRows.{number_rows_of}
use Rattle.number_rows.proofs.CallerLemmas.{kept_after_write, wrote_there}
use Rattle.flow_graph.proofs.flow_rows.Writes.{wrote_height, wrote_excess, wrote_flow}
use Rattle.flow_graph.proofs.flow_rows.Rooms.{heights_kept, excesses_kept, flows_kept}
use Rattle.flow_graph.proofs.numbers.FlowNumbers.write.Goals as goal

pub returns-in-Height-clause-ok : goal.returns-in-Height-clause-ok
returns-in-Height-clause-ok c = on_ok_weaker c.write.result (wrote_height (number_rows_of c.args.self.now.heights) (number_rows_of c.args.self.now.excesses) (number_rows_of c.args.self.now.flows) (number_rows_of c.write.new.self) c.args.quantity c.args.key _ c.args.number _ c.in-Height.is
    (to_z-of_z w64 c.args.key c.ranges.key) (to_z-of_z w64 c.args.number c.ranges.number)) c.write.ensures.ok

pub returns-in-Height-clause-room : goal.returns-in-Height-clause-room
returns-in-Height-clause-room c = rw c.in-Height.is (on_ok_weaker c.write.result (wrote_there (number_rows_of c.args.self.now.heights) (number_rows_of c.write.new.self) c.args.key _ _ (to_z-of_z w64 c.args.key c.ranges.key)) c.write.ensures.ok)

pub returns-in-Height-clause-kept : goal.returns-in-Height-clause-kept
returns-in-Height-clause-kept c = heights_kept c.args.self.now c.write.new.self (kept_after_write c.write.result (number_rows_of c.args.self.now.heights) (number_rows_of c.write.new.self) _ _ c.write.ensures.ok c.write.ensures.err)

pub returns-in-Excess-clause-ok : goal.returns-in-Excess-clause-ok
returns-in-Excess-clause-ok c = on_ok_weaker c.write-in-Excess.result (wrote_excess (number_rows_of c.args.self.now.heights) (number_rows_of c.args.self.now.excesses) (number_rows_of c.args.self.now.flows) (number_rows_of c.write-in-Excess.new.self) c.args.quantity c.args.key _ c.args.number _ c.in-Excess.is
    (to_z-of_z w64 c.args.key c.ranges.key) (to_z-of_z w64 c.args.number c.ranges.number)) c.write-in-Excess.ensures.ok

pub returns-in-Excess-clause-room : goal.returns-in-Excess-clause-room
returns-in-Excess-clause-room c = rw c.in-Excess.is (on_ok_weaker c.write-in-Excess.result (wrote_there (number_rows_of c.args.self.now.excesses) (number_rows_of c.write-in-Excess.new.self) c.args.key _ _ (to_z-of_z w64 c.args.key c.ranges.key)) c.write-in-Excess.ensures.ok)

pub returns-in-Excess-clause-kept : goal.returns-in-Excess-clause-kept
returns-in-Excess-clause-kept c = excesses_kept c.args.self.now c.write-in-Excess.new.self (kept_after_write c.write-in-Excess.result (number_rows_of c.args.self.now.excesses) (number_rows_of c.write-in-Excess.new.self) _ _ c.write-in-Excess.ensures.ok c.write-in-Excess.ensures.err)

pub returns-in-Flow-clause-ok : goal.returns-in-Flow-clause-ok
returns-in-Flow-clause-ok c = on_ok_weaker c.write-in-Flow.result (wrote_flow (number_rows_of c.args.self.now.heights) (number_rows_of c.args.self.now.excesses) (number_rows_of c.args.self.now.flows) (number_rows_of c.write-in-Flow.new.self) c.args.quantity c.args.key _ c.args.number _ c.in-Flow.is
    (to_z-of_z w64 c.args.key c.ranges.key) (to_z-of_z w64 c.args.number c.ranges.number)) c.write-in-Flow.ensures.ok

pub returns-in-Flow-clause-room : goal.returns-in-Flow-clause-room
returns-in-Flow-clause-room c = rw c.in-Flow.is (on_ok_weaker c.write-in-Flow.result (wrote_there (number_rows_of c.args.self.now.flows) (number_rows_of c.write-in-Flow.new.self) c.args.key _ _ (to_z-of_z w64 c.args.key c.ranges.key)) c.write-in-Flow.ensures.ok)

pub returns-in-Flow-clause-kept : goal.returns-in-Flow-clause-kept
returns-in-Flow-clause-kept c = flows_kept c.args.self.now c.write-in-Flow.new.self (kept_after_write c.write-in-Flow.result (number_rows_of c.args.self.now.flows) (number_rows_of c.write-in-Flow.new.self) _ _ c.write-in-Flow.ensures.ok c.write-in-Flow.ensures.err)
