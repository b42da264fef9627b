mod Accepted
mod Kept
mod FirstUser
