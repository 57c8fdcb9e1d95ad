pub mod Builders
pub mod Freeing
