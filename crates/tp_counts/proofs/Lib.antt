mod Tallying
mod Pieces
mod Writing
mod Touching
pub mod Free
mod Runs
mod Looking
pub mod Refusing
