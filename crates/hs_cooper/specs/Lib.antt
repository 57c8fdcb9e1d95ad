pub mod Stopping
pub mod Surveying
pub mod Bounding
pub mod Casing
pub mod Searching
