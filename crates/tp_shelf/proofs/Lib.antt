pub mod Breaking
pub mod Shelving
