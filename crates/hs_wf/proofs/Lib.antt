pub mod Members
pub mod Following
pub mod Linked
pub mod Unmarked
pub mod Firsts
pub mod Depth
mod Unique
