pub mod LockModes
pub mod Compiled
pub mod CompileRefusals
pub mod Reduced
pub mod Wants
