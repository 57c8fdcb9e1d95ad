pub mod Spans
pub mod Turns
pub mod Yields
pub mod Whole
pub mod Full
