pub mod Sign
pub mod Reading
pub mod Gathering
pub mod Changing
pub mod Normalizing
