pub mod Errors
pub mod Found
pub mod Named
pub mod Walk
