pub mod Living
pub mod Statuses
pub mod Staying
pub mod Tasks
