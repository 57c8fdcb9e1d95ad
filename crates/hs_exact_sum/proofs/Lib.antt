pub mod Products
pub mod Exact
