use Rattle.gate_core.proofs.lawful.GateLaws.{numbers_below}
use Rattle.gate_core.proofs.laws.numbers_are_below_the_mark.Goals as goal

pub returns : goal.returns
returns c = numbers_below
