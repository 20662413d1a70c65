pub mod Draws
pub mod AffineMaps
