pub mod Lines
pub mod Numbers
pub mod Words
pub mod Nodes
pub mod Entries
pub mod Read
pub mod Once
