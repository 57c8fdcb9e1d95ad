mod Sources
mod Statuses
mod Hips
mod Derivations
