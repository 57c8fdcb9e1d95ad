pub mod Writable
pub mod Written
pub mod Laws
