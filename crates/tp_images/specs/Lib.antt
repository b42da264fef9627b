pub mod Deeds
pub mod Files
pub mod Logs
pub mod Memory
