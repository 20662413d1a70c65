use Rattle.std.proofs.Common.{◌≡◌, rules, to_z, of_z}
use Rattle.std.proofs.lemmas.Int.{to_z-of_z}
use Rattle.std.specs.Int.{w64}
use Rattle.preflow_push.proofs.moves.DischargeMoves.{at_terminal}
use Rattle.preflow_push.proofs.discharge.Discharge.after_gains.Goals as goal

pub returns-then-is_terminal : goal.returns-then-is_terminal
returns-then-is_terminal c =
    let other : to_z w64 (of_z w64 c.args.arc.other) ≡ c.args.arc.other = to_z-of_z w64 c.args.arc.other (search rules) in
    at_terminal c.args.self.now c.args.walk c.args.arc c.args.amount _ _ (cc) c.unless_spent.ensures
