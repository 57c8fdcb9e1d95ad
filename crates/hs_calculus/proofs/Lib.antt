pub mod Over
pub mod Trees
mod Lists
mod Reading
mod Progresses
mod Searches
pub mod Induct
mod Blames
mod Trails
mod Complete
