mod Adding
mod Params
