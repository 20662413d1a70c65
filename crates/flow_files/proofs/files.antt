pub mod LineTests
pub mod LineRuns
pub mod FirstFaults
pub mod FileAnswers
