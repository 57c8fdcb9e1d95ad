mod Simple
mod Apart
