mod Same
mod Told
mod Applied
mod Asking
mod Going
mod Judging
pub mod RightSteps
