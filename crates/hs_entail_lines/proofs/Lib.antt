mod Goals
mod Held
mod Told
