pub mod Lists
pub mod Variable
pub mod Linear
pub mod Pure
pub mod Formula
pub mod Valuation
pub mod Line
