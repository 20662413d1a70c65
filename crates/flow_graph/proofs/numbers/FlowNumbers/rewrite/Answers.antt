use Rattle.std.proofs.Common.{w64}
use Rattle.std.proofs.lemmas.Int.{to_z-of_z}
use Rattle.number_rows.specs.NumberRows.{number_rows_of}
use Rattle.number_rows.proofs.CallerLemmas.{rewrote_kept}
use Rattle.flow_graph.proofs.flow_rows.Writes.{wrote_height, wrote_excess, wrote_flow}
use Rattle.flow_graph.proofs.flow_rows.Rooms.{heights_kept, excesses_kept, flows_kept}
use Rattle.flow_graph.proofs.numbers.FlowNumbers.rewrite.Goals as goal

pub returns-in-Height-clause-state : goal.returns-in-Height-clause-state
returns-in-Height-clause-state c = wrote_height (number_rows_of c.args.self.now.heights) (number_rows_of c.args.self.now.excesses) (number_rows_of c.args.self.now.flows) (number_rows_of c.rewrite.new.self) c.args.quantity c.args.key _ c.args.number _ c.in-Height.is
    (to_z-of_z w64 c.args.key c.ranges.key) (to_z-of_z w64 c.args.number c.ranges.number) c.rewrite.ensures

pub returns-in-Height-clause-kept : goal.returns-in-Height-clause-kept
returns-in-Height-clause-kept c = heights_kept c.args.self.now c.rewrite.new.self (rewrote_kept (number_rows_of c.args.self.now.heights) (number_rows_of c.rewrite.new.self) _ _ c.rewrite.ensures)

pub returns-in-Excess-clause-state : goal.returns-in-Excess-clause-state
returns-in-Excess-clause-state c = wrote_excess (number_rows_of c.args.self.now.heights) (number_rows_of c.args.self.now.excesses) (number_rows_of c.args.self.now.flows) (number_rows_of c.rewrite-in-Excess.new.self) c.args.quantity c.args.key _ c.args.number _ c.in-Excess.is
    (to_z-of_z w64 c.args.key c.ranges.key) (to_z-of_z w64 c.args.number c.ranges.number) c.rewrite-in-Excess.ensures

pub returns-in-Excess-clause-kept : goal.returns-in-Excess-clause-kept
returns-in-Excess-clause-kept c = excesses_kept c.args.self.now c.rewrite-in-Excess.new.self (rewrote_kept (number_rows_of c.args.self.now.excesses) (number_rows_of c.rewrite-in-Excess.new.self) _ _ c.rewrite-in-Excess.ensures)

pub returns-in-Flow-clause-state : goal.returns-in-Flow-clause-state
returns-in-Flow-clause-state c = wrote_flow (number_rows_of c.args.self.now.heights) (number_rows_of c.args.self.now.excesses) (number_rows_of c.args.self.now.flows) (number_rows_of c.rewrite-in-Flow.new.self) c.args.quantity c.args.key _ c.args.number _ c.in-Flow.is
    (to_z-of_z w64 c.args.key c.ranges.key) (to_z-of_z w64 c.args.number c.ranges.number) c.rewrite-in-Flow.ensures

pub returns-in-Flow-clause-kept : goal.returns-in-Flow-clause-kept
returns-in-Flow-clause-kept c = flows_kept c.args.self.now c.rewrite-in-Flow.new.self (rewrote_kept (number_rows_of c.args.self.now.flows) (number_rows_of c.rewrite-in-Flow.new.self) _ _ c.rewrite-in-Flow.ensures)
