mod Adding
mod Members
mod Substitutions
pub mod Together
mod Stopped
mod Bodies
