pub mod Lines
pub mod Values
pub mod Text
pub mod Reading
pub mod Laws
