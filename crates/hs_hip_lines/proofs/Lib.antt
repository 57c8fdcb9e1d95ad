mod Causing
mod Telling
mod Accepting
