pub mod Calculus
pub mod Search
pub mod Progress
pub mod Steps
pub mod Blame
pub mod Laws
