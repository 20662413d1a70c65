use Rattle.speculation.proofs.Theorems.{runs_are_serial}
use Rattle.speculation.proofs.laws.runs_are_serial.Goals as goal

pub returns : goal.returns
returns c = runs_are_serial
