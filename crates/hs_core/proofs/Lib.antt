pub mod Runs
pub mod SimpleTells
pub mod InstrTells
pub mod GivenVars
pub mod PairTells
pub mod ProgramTells
pub mod InScope
