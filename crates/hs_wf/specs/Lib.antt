pub mod Founded
pub mod Faults
pub mod Laws
pub mod Marked
pub mod Links
