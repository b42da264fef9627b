pub mod Numbers
mod Lines
