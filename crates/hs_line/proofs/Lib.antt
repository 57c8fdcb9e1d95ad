pub mod Cuts
pub mod Short
pub mod Turns
