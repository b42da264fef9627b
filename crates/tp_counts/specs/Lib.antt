pub mod Counts
pub mod LookUps
pub mod StoreErrors
pub mod Tallies
