pub mod Size
pub mod Span
