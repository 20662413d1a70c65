pub mod MeaningLaws
pub mod RegisterLaws
pub mod SetLaws
pub mod CellsLaws
pub mod FlowLaws
pub mod PointLaws
pub mod DomainLaws
pub mod KnownLaws
