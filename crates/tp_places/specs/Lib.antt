pub mod Answered
pub mod Groups
