use Rattle.cluster_laws.proofs.RunLaws.{merge_mutual}
use Rattle.cluster_laws.proofs.laws.merged_points_are_mutually_nearest.Goals as goal

pub returns : goal.returns
returns c = merge_mutual
