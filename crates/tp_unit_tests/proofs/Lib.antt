pub mod Untelling
