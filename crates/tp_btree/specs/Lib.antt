pub mod Trees
pub mod Walks
pub mod Runs
pub mod Roots
pub mod Inserts
pub mod Replaces
pub mod Removes
pub mod Least
