pub mod Numbers
pub mod Sizing
