pub mod Forest
pub mod Paths
pub mod Volumes
pub mod Changes
pub mod Later
pub mod Sizes
