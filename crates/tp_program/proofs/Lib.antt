mod Ends
mod Offering
mod Tasks
