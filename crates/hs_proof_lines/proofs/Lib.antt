mod Adding
mod Found
mod Listing
mod Standing
