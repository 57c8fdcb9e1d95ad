pub mod Judged
pub mod Fitting
pub mod Steps
pub mod After
pub mod Following
pub mod Laws
