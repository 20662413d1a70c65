use Rattle.flow_graph.specs.Uses.{sort_of}
use Rattle.flow_graph.proofs.flow_rows.Unwritten.{no_number}
use Rattle.flow_graph.proofs.shard.FlowShard.value.Goals as goal

pub returns-in-None : goal.returns-in-None
returns-in-None c = no_number c.args.self.now.numbers (sort_of c.args.quantity, c.args.key) c.in-None.is
