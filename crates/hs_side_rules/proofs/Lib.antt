pub mod Pairs
pub mod Occurrences
pub mod Divided
pub mod Valued
pub mod Coefficients
pub mod Ordered
