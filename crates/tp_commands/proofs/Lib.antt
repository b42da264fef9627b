mod Failing
pub mod First
mod Ending
pub mod Living
mod Asks
mod Cleared
mod Chosen
mod Playing
mod Taking
mod Formats
pub mod Deeds
