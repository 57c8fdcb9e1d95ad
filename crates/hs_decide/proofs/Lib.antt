pub mod Asking
pub mod Comparisons
pub mod Reducing
pub mod Questions
pub mod Sides
