pub mod Uses
pub mod FlowRows
pub mod FlowNumbers
pub mod FlowState
