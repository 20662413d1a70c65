pub mod Effects
pub mod ActSwaps
pub mod UseSwaps
pub mod Validity
