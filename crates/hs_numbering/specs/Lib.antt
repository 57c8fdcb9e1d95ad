pub mod Laws
pub mod Least
pub mod Names
pub mod Numbering
pub mod Scope
