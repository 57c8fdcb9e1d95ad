pub mod Layout
pub mod Instance
pub mod Reduction
pub mod Rebuilt
pub mod Laws
