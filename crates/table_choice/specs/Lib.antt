pub mod Choices
pub mod RunTables
pub mod AnyScreens
