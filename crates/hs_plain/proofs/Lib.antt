pub mod Sums
pub mod Inserting
pub mod Free
pub mod Chain
pub mod Questions
