pub mod States
pub mod Parts
pub mod Table
pub mod Safe
pub mod Laws
