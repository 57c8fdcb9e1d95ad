pub mod Directories
pub mod Lists
