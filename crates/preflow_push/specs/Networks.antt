-- Networks, as contracts see them, passed on.
pub use Rattle.flow_files.specs.declared.network.Arc.{Arc}
pub use Rattle.flow_files.specs.Networks.{Net, view}
