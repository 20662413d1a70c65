use Rattle.std.proofs.Common.{None, refl}
use Rattle.flow_graph.proofs.flow_rows.Unwritten.{no_rows}
use Rattle.flow_graph.proofs.shard.FlowShard.new.Goals as goal

pub returns : goal.returns
returns c = no_rows None refl
