pub mod Names
pub mod State
pub mod Sums
pub mod Exprs
pub mod Binders
pub mod Items
pub mod Entries
pub mod Formulas
