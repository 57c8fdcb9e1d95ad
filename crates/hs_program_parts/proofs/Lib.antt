mod Held
mod Flat
mod Ranges
mod Names
mod Opens
mod Called
