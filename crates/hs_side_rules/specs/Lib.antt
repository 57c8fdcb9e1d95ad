pub mod Opening
pub mod Solving
pub mod Splitting
