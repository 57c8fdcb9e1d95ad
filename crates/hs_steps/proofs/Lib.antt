pub mod Concluded
pub mod Placed
pub mod Pushed
