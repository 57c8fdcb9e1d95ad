pub mod Formulas
pub mod Lines
pub mod Parts
pub mod Stops
pub mod Text
