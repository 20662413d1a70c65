pub mod MutualPairs
pub mod ChainKeys
pub mod ClusterRuns
pub mod OrderLaw
