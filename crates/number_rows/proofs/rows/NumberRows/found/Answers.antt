use Rattle.std.proofs.Common.{rules, to_z, of_z, FitsSigned, w64}
use Rattle.std.proofs.lemmas.Int.{to_z-of_z}
use Rattle.number_rows.proofs.entries.Lookups.{found, not_found}
use Rattle.number_rows.proofs.rows.NumberRows.found.Goals as goal

pub returns-in-Some : goal.returns-in-Some
returns-in-Some c =
    let f : FitsSigned w64 c.in-Some.number.now = search rules in
    found c.args.self.now.numbers.entries c.args.key (to_z w64 (of_z w64 c.args.key)) c.in-Some.number.now (to_z w64 (of_z w64 c.in-Some.number.now)) (to_z-of_z w64 c.args.key c.ranges.key) (to_z-of_z w64 c.in-Some.number.now f) c.in-Some.ensures.value

pub returns-in-None : goal.returns-in-None
returns-in-None c = not_found c.args.self.now.numbers.entries c.args.key (to_z w64 (of_z w64 c.args.key)) (to_z-of_z w64 c.args.key c.ranges.key) c.in-None.ensures.value
