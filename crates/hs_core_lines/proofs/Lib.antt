mod Starting
mod Unique
