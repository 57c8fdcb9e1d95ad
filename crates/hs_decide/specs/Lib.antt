pub mod Question
pub mod Size
pub mod Span
pub mod Reduced
pub mod Asking
pub mod Answering
