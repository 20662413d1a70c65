use Rattle.gx_base.proofs.replays.CallReplays.{Legal-split, Legal-append}
use Rattle.gx_base.proofs.replays.RoomReplays.{Replays-split, Replays-append, part-append}
use Rattle.gx_base.proofs.laws.replays_split_and_join.Goals as goal

pub returns : goal.returns
returns c = record { split = Replays-split; joined = Replays-append; parts = part-append; split_calls = Legal-split; joined_calls = Legal-append }
