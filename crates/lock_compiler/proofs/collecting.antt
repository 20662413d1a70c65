pub mod LockedNumbers
pub mod Inequalities
pub mod Rising
pub mod Steps
