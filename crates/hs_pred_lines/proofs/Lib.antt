mod Told
mod Asked
