use Rattle.gx_base.proofs.object_kinds.KnownLaws.{undoes}
use Rattle.gx_base.proofs.laws.inverse_undoes.Goals as goal

pub returns : goal.returns
returns c = undoes
