use Rattle.cluster_laws.proofs.RunLaws.{keys_fall}
use Rattle.cluster_laws.proofs.laws.keys_fall_along_chains.Goals as goal

pub returns : goal.returns
returns c = keys_fall
