pub mod Failing
pub mod Shelves
