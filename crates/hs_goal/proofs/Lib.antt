pub mod Closing
pub mod Told
pub mod Sides
pub mod Ends
pub mod Alike
pub mod Flat
