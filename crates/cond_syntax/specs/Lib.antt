pub mod Pieces
pub mod Tokens
pub mod WrittenConditions
pub mod Grammar
pub mod Fronts
pub mod TableTexts
pub mod Printing
pub mod Printable
