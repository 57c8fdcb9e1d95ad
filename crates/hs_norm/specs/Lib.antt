pub mod Items
pub mod Normal
