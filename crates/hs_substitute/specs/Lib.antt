pub mod Substitution
