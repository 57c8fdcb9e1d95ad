pub mod Expr
pub mod Item
pub mod Formula
pub mod Grammar
pub mod Laws
