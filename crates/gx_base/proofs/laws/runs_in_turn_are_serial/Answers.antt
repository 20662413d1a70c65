use Rattle.gx_base.proofs.serial.Journals.{IsSerialRun-runs}
use Rattle.gx_base.proofs.laws.runs_in_turn_are_serial.Goals as goal

pub returns : goal.returns
returns c = IsSerialRun-runs
