pub mod Texts
pub mod Writing
pub mod Json
pub mod Holes
