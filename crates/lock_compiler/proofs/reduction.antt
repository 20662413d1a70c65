pub mod Below
pub mod Alike
