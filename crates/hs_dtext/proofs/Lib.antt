mod Alone
pub mod Proved
