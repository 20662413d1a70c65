pub mod CodeTokens
pub mod Comparisons
pub mod LineForms
pub mod Machine
pub mod Sources
pub mod TokenSteps
