pub mod HoldLists
pub mod Pasts
pub mod LawfulLemmas
