pub mod Messages
pub mod Told
pub mod Asked
