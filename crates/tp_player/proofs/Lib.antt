pub mod Unheld
