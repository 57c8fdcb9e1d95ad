pub mod Faultless
pub mod Fits
pub mod Numbers
pub mod Making
pub mod Taken
pub mod Examples
