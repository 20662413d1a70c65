pub mod FrontLemmas
pub mod KnownWords
pub mod OneTree
pub mod SmallNumbers
