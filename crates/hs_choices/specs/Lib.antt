pub mod Places
pub mod Tests
pub mod Choices
pub mod Asked
pub mod Stuck
pub mod Weight
pub mod Laws
