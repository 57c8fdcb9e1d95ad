pub mod Said
pub mod Placed
pub mod Bagged
pub mod Right
