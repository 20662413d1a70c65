pub mod Registers
pub mod StateRows
pub mod Wrapping
pub mod RowActionLaws
