mod Numbers
mod Words
mod Spelled
mod Lines
pub mod Asking
