pub mod Named
pub mod Told
pub mod Right
pub mod Listed
pub mod Laws
