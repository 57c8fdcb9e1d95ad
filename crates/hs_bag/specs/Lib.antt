pub mod Counting
pub mod Substituting
pub mod Literals
pub mod Size
pub mod Promise
