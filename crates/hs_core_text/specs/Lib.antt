pub mod Slots
pub mod Text
pub mod Laws
