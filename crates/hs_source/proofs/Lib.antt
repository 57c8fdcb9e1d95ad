mod Counts
mod Uniqueness
mod Causes
