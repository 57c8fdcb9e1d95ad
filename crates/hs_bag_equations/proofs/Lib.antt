mod Worth
mod Suiting
mod Members
