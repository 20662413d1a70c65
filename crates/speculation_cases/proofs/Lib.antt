pub mod GivenTurns
pub mod WrittenRows
pub mod DiamondTurns
pub mod SetterTurns
pub mod ReaderTurns
pub mod NewCases
pub mod SerialDiamond
