pub mod Faults
pub mod Group
