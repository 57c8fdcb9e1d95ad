pub mod Surveys
pub mod Joining
pub mod Backs
pub mod Thirds
pub mod Whole
pub mod NarrowStages
pub mod Searches
