pub mod Reading
pub mod Size
pub mod Formulas
pub mod Widths
pub mod Substituting
