pub mod Claims
pub mod Entries
