use Rattle.std.proofs.Common.{w64, rules, FitsSigned}
use Rattle.std.proofs.lemmas.Int.{to_z-of_z}
use Rattle.number_rows.specs.NumberRows.{number_rows_of}
use Rattle.flow_graph.proofs.flow_rows.Writes.{read_height, read_excess, read_flow}
use Rattle.flow_graph.proofs.numbers.FlowNumbers.value.Goals as goal

pub returns-in-Height : goal.returns-in-Height
returns-in-Height c =
    let f : FitsSigned w64 c.value.result = search rules in
    read_height (number_rows_of c.args.self.now.heights) (number_rows_of c.args.self.now.excesses) (number_rows_of c.args.self.now.flows) c.args.quantity c.args.key _ c.value.result _ c.in-Height.is
    (to_z-of_z w64 c.args.key c.ranges.key) (to_z-of_z w64 c.value.result f) c.value.ensures

pub returns-in-Excess : goal.returns-in-Excess
returns-in-Excess c =
    let f : FitsSigned w64 c.value-in-Excess.result = search rules in
    read_excess (number_rows_of c.args.self.now.heights) (number_rows_of c.args.self.now.excesses) (number_rows_of c.args.self.now.flows) c.args.quantity c.args.key _ c.value-in-Excess.result _ c.in-Excess.is
    (to_z-of_z w64 c.args.key c.ranges.key) (to_z-of_z w64 c.value-in-Excess.result f) c.value-in-Excess.ensures

pub returns-in-Flow : goal.returns-in-Flow
returns-in-Flow c =
    let f : FitsSigned w64 c.value-in-Flow.result = search rules in
    read_flow (number_rows_of c.args.self.now.heights) (number_rows_of c.args.self.now.excesses) (number_rows_of c.args.self.now.flows) c.args.quantity c.args.key _ c.value-in-Flow.result _ c.in-Flow.is
    (to_z-of_z w64 c.args.key c.ranges.key) (to_z-of_z w64 c.value-in-Flow.result f) c.value-in-Flow.ensures
