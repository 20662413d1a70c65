use Rattle.gx_base.proofs.object_kinds.KnownLaws.{kind-next_state, next_state-IsState}
use Rattle.gx_base.proofs.laws.calls_keep_states.Goals as goal

pub returns : goal.returns
returns c = record { state = next_state-IsState; kind = kind-next_state }
