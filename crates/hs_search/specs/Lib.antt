pub mod Entailments
pub mod Answer
pub mod Sleek
pub mod Falling
pub mod Laws
