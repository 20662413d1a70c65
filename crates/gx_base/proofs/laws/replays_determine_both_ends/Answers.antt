use Rattle.gx_base.proofs.replays.CallReplays.{after-Legal, start_of-Legal}
use Rattle.gx_base.proofs.replays.RoomReplays.{Replays-ends}
use Rattle.gx_base.proofs.laws.replays_determine_both_ends.Goals as goal

pub returns : goal.returns
returns c = record { end = after-Legal; start = start_of-Legal; of_rooms = Replays-ends }
