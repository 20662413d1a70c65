pub mod BodySteps
pub mod SerialSteps
pub mod LeastFirst
