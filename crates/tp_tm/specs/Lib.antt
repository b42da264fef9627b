pub mod Tm
pub mod Holds
pub mod Keeps
