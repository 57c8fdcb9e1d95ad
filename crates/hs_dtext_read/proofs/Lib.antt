mod Following
mod Groups
mod Inside
mod Named
mod Rises
mod Standing
mod Tokens
mod Trees
