pub mod Asking
pub mod Withdrawing
