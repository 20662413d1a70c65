use Rattle.gate_core.proofs.replays.Swapping.{swapped}
use Rattle.gate_core.proofs.laws.commuting_entries_may_be_swapped.Goals as goal

pub returns : goal.returns
returns c = λ kind rows s e m valid. swapped kind rows valid s e m
