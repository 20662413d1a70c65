pub mod DischargePushes
pub mod OrdersTold
