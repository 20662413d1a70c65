use Rattle.gx_base.proofs.serial.Prefixes.{IsSerialRun-split, IsSerialRun-append}
use Rattle.gx_base.proofs.laws.serial_runs_split_and_join.Goals as goal

pub returns : goal.returns
returns c = record { split = IsSerialRun-split; joined = IsSerialRun-append }
