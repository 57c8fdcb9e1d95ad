pub mod Merging
pub mod Forms
pub mod Changes
pub mod Normals
pub mod Members
pub mod Narrow
