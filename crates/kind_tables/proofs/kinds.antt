pub mod TableFacts
pub mod Fills
pub mod RegisterLaws
pub mod FlowLaws
pub mod DomainLaws
pub mod AllKinds
