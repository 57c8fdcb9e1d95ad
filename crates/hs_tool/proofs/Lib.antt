mod NormalForms
mod Reasons
mod Ending
mod Replies
mod Writing
