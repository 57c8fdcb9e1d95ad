pub mod Merging
pub mod Substituted
pub mod Ordering
pub mod Parts
