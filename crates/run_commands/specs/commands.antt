pub mod Flow
pub mod Cluster
pub mod ModeLines
pub mod Classify
pub mod About
