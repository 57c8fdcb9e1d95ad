pub mod Stages
pub mod Joined
pub mod Parts
