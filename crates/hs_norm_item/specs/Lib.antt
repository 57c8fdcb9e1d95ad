pub mod Claim
pub mod Claims
pub mod Definitions
pub mod Free
