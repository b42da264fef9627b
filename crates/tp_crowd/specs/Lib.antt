pub mod Fetches
pub mod Guests
pub mod Ruling
