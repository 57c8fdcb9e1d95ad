pub mod Rows
pub mod Claims
pub mod Searching
pub mod Finding
pub mod Towers
