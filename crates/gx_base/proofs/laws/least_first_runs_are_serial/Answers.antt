use Rattle.gx_base.proofs.serial.LeastFirst.{IsSerialRun-least_first}
use Rattle.gx_base.proofs.laws.least_first_runs_are_serial.Goals as goal

pub returns : goal.returns
returns c = IsSerialRun-least_first
