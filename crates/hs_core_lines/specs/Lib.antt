pub mod Core
pub mod Run
pub mod Laws
