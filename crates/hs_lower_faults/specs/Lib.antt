pub mod First
pub mod Types
pub mod Ends
pub mod Setting
pub mod View
pub mod Faults
