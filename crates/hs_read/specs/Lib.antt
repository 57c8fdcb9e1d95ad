pub mod Test
pub mod Statement
pub mod Declare
pub mod Grammar
pub mod Laws
pub mod Written
