pub mod Sums
pub mod Division
pub mod Lists
pub mod Steps
pub mod Tests
pub mod Literals
pub mod Joining
