use Rattle.gx_base.proofs.replays.RoomReplays.{Replays-apart, Replays-merged}
use Rattle.gx_base.proofs.laws.rooms_replay_apart.Goals as goal

pub returns : goal.returns
returns c = record { apart = Replays-apart; merged = Replays-merged }
