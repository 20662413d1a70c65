use Rattle.cluster_laws.proofs.RunLaws.{are_unbounded}
use Rattle.cluster_laws.proofs.laws.bodies_end_by_themselves.Goals as goal

pub returns : goal.returns
returns c = are_unbounded
