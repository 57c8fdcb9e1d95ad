pub mod Approximation
pub mod Counts
pub mod Invariants
pub mod Laws
