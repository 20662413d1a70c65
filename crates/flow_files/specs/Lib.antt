pub mod Networks
pub mod FlowLines
pub mod FlowFiles
pub mod FlowLimits
pub mod FlowReading
