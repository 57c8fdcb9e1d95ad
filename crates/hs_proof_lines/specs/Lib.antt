pub mod Open
pub mod Proved
pub mod Growing
pub mod Checked
