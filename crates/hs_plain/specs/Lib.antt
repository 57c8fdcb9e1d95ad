pub mod Variables
pub mod Size
pub mod Span
pub mod Laws
