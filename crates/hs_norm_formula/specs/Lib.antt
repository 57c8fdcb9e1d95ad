pub mod Expr
pub mod Formula
pub mod Item
pub mod Laws
pub mod Numbered
pub mod Splice
pub mod Sum
pub mod Table
