pub mod Tree
pub mod Answer
pub mod Laws
pub mod Asked
pub mod Visited
