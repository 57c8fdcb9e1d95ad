pub mod Claims
pub mod Entries
pub mod Laws
pub mod Methods
pub mod Uses
