pub mod Naming
pub mod Judging
pub mod Placing
pub mod Held
pub mod Found
pub mod Saying
pub mod Concluding
pub mod Ready
