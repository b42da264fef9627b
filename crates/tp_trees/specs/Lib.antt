pub mod Tree
pub mod Growth
pub mod Replacement
pub mod Altering
pub mod Removal
pub mod Paths
pub mod Sizes
