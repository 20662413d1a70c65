use Rattle.cluster_laws.proofs.RunLaws.{end_in_one}
use Rattle.cluster_laws.proofs.laws.whole_runs_end_in_one_point.Goals as goal

pub returns : goal.returns
returns c = end_in_one
