mod Rooms
mod Opened
mod Proofs
mod Answered
mod Complete
