pub mod PairConditions
pub mod RegisterTables
pub mod Deeds
pub mod FlowTables
pub mod DomainTables
pub mod TablesOfKinds
pub mod Classes
