pub mod PrintableTrees
pub mod PrintedConditions
pub mod PrintedLines
pub mod PrintedNumbers
pub mod PrintedTables
pub mod PrintedTokens
