pub mod Word
pub mod Input
pub mod View
pub mod Grammar
