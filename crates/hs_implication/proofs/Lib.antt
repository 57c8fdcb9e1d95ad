pub mod Numbers
pub mod Solutions
