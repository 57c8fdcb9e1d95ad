pub mod Conditions
pub mod Code
pub mod Lowering
