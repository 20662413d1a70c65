pub mod Needs
pub mod Compiled
pub mod Reduced
pub mod Foreign
pub mod Fewest
