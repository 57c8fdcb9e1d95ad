pub mod Sides
pub mod Reduction
pub mod Question
pub mod Settling
