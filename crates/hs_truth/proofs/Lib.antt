pub mod Elements
pub mod Decided
