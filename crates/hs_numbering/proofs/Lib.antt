pub mod Before
pub mod Scopes
