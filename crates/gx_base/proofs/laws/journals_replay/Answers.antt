use Rattle.gx_base.proofs.serial.Journals.{IsSerialRun-Replays}
use Rattle.gx_base.proofs.laws.journals_replay.Goals as goal

pub returns : goal.returns
returns c = IsSerialRun-Replays
