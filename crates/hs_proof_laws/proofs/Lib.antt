mod Moving
mod Claiming
mod Writing
