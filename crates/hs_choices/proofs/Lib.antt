pub mod Passing
pub mod Leaders
pub mod Answered
pub mod Tried
pub mod Lighter
pub mod Least
pub mod Untried
pub mod LemmaSteps
