pub mod Known
pub mod Rows
pub mod Askable
pub mod Opens
