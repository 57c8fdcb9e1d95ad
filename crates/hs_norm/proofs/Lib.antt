pub mod Builders
pub mod Stages
pub mod Answered
