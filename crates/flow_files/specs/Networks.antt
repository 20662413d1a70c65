-- Networks, as contracts see them.
use Rattle.std.specs.Prelude.{ℤ, List}
use Rattle.flow_files.specs.declared.network.Arc.{Arc}
use Rattle.flow_files.specs.declared.network.Network.{Network}

pub record Net : Type 0 where
  pub nodes : ℤ
  pub source : ℤ
  pub sink : ℤ
  pub arcs : List Arc

abbrev pub view : Network → Net
view n = record { nodes = n.nodes; source = n.source; sink = n.sink; arcs = n.arcs.items }
