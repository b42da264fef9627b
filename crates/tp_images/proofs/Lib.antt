mod Kept
mod Shelved
mod Unclaimed
