pub mod Fit
pub mod Renaming
