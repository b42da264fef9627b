pub mod Framing
pub mod Locked
pub mod Census
pub mod Health
pub mod Seen
