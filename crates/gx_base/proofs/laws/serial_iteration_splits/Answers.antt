use Rattle.gx_base.proofs.serial.Prefixes.{serial-append}
use Rattle.gx_base.proofs.laws.serial_iteration_splits.Goals as goal

pub returns : goal.returns
returns c = serial-append
