pub mod Served
pub mod Midway
pub mod AtMetadata
